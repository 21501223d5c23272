-- What the edges of a macroblock that lies in its plane hold, over the side n: outside the picture an edge is absent, its bytes 0; any other
-- is the finished pixels beside the macroblock, each by its row and column in the plane. Below the first row the top-left pixel of the first
-- column is 129, and the four above right of the last column are those given.
-- Assumes nothing.
use Prim.Native.Nat.{ℕ, ◌+◌, ◌-◌, ◌*◌, ◌<◌, ◌≤◌}
use mathlib.Core.Bool.{Bool, true, false}
use mathlib.Core.Path.{◌≡◌, sym, ap, ◌∙◌}
use mathlib.Core.Logic.{◌⊎◌, ⊎_elim}
use mathlib.Core.List.{List}
use native.Mathlib.Nat.{add-mul}
use native.Mathlib.Omega.{arith}
use lib.ListN.{length, get_or, replicate, get_or-replicate}
use lib.Seq.{ext_get_or}
use borrow.Author.Tests.{lt-ltb, le-ltb}
use Rattle.lists.specs.Lists.{table, part}
use Rattle.lists.proofs.Table.{table-length, table_at, table-ext, table_same}
use Rattle.lists.proofs.Rows.{row_within}
use Rattle.rfc6386.specs.Picture.{has_above, has_left, pixel_of, row_above, left_of}
use Rattle.picture_limits.specs.Place.{Placed}
use Rattle.picture_limits.proofs.Bounds.{above, left}
use Rattle.gathering.proofs.Copied.{pixel-margin, pixel-own, pixel-right, row-unread}

-- an edge and its mark: absent, k bytes 0
pub record Absent (k : ℕ) (mark : Bool) (bytes : List ℕ) : Type 0 where
  pub off : mark ≡ false
  pub zeros : bytes ≡ replicate k 0

-- or there, its k bytes the pixels of the plane l at the places `at 0` .. `at (k - 1)`
pub record There (l : List ℕ) (k : ℕ) (at : ℕ → ℕ) (mark : Bool) (bytes : List ℕ) : Type 0 where
  pub on : mark ≡ true
  pub count : length bytes ≡ k
  pub inside : (i : ℕ) → i < k → at i < length l
  pub pixels : (i : ℕ) → i < k → get_or bytes i 0 ≡ get_or l (at i) 0

-- the three edges that each plane has: the top-left pixel p, the row above and the left column. A row of the plane has n w pixels
pub record Around (n : ℕ) (l : List ℕ) (w c r p : ℕ) (above left : List ℕ) (p-mark above-mark left-mark : Bool) : Type 0 where
  pub above-outside : r ≡ 0 → Absent n above-mark above
  pub above-beside : 0 < r → There l n (λ i. (n * r - 1) * (n * w) + n * c + i) above-mark above
  pub left-outside : c ≡ 0 → Absent n left-mark left
  pub left-beside : 0 < c → There l n (λ i. (n * r + i) * (n * w) + (n * c - 1)) left-mark left
  pub top-left-outside : r ≡ 0 → (p-mark ≡ false) × (p ≡ 0)
  pub top-left-margin : 0 < r → c ≡ 0 → (p-mark ≡ true) × (p ≡ 129)
  pub top-left-beside : 0 < r → 0 < c → (p-mark ≡ true) × (p ≡ get_or l ((n * r - 1) * (n * w) + (n * c - 1)) 0)

-- ---- the row above, pixel by pixel
module _ (n m : ℕ) (l : List ℕ) (w c r : ℕ) (right : List ℕ) where
  pub row-pixel : 0 < r → (i : ℕ) → i < m → get_or (row_above n m l w c r right) i 0 ≡ pixel_of l (n * w) (n * r - 1) right (n * c + i)
  unfolding row_above
  row-pixel h i k = rw (lt-ltb 0 r h) (table_at m _ i 0 k)

  row-zeros : r ≡ 0 → row_above n m l w c r right ≡ replicate m 0
  unfolding row_above
  row-zeros z = rw (le-ltb 0 r (omega arith))

  -- k pixels from `at` on
  pub part-absent : r ≡ 0 → (k at : ℕ) → at + k ≤ m → Absent k (has_above c r) (part k (row_above n m l w c r right) at)
  unfolding part
  part-absent z k at h =
      record {
        off = le-ltb 0 r (omega arith);
        zeros = rw (row-zeros z) (table-ext k _ (λ i. 0) (λ i b. get_or-replicate m (at + i) 0 0 (omega arith)) ∙ table_same 0 k);
      }

  -- `from`: where the first of them stands in the plane
  pub part-there : 0 < r → (k at from : ℕ) → at + k ≤ m → from ≡ (n * r - 1) * (n * w) + (n * c + at - 1) → 1 ≤ n * c + at
      → n * c + at + k ≤ n * w + 1 → (n * r - 1) * (n * w) + n * w ≤ length l
      → There l k (λ i. from + i) (has_above c r) (part k (row_above n m l w c r right) at)
  unfolding part
  part-there h k at from a e one b room =
      record {
        on = lt-ltb 0 r h;
        count = table-length k _;
        inside = λ i t. omega arith;
        pixels =
            λ i t.
            let q : (n * r - 1) * (n * w) + (n * c + (at + i) - 1) ≡ from + i = omega arith in
            table_at k _ i 0 t ∙ row-pixel h (at + i) (omega arith)
            ∙ pixel-own l (n * w) (n * r - 1) right (n * c + (at + i)) (omega arith) (omega arith)
            ∙ ap (λ (j : ℕ). get_or l j 0) q;
      }

module _ {n : ℕ} {l : List ℕ} {w c r : ℕ} (p : Placed n l w c r) where
  left-column : 0 < c → There l n (λ i. (n * r + i) * (n * w) + (n * c - 1)) (has_left c r) (left_of n l w c r)
  unfolding left_of
  left-column h =
      let f = lt-ltb 0 c h in
      let a = left p h in
      record {
        on = f;
        count = rw f (table-length n _);
        inside = λ i t. let m = row_within (n * w) n i t in omega (arith, add-mul (n * r) i (n * w));
        pixels = λ i t. rw f (table_at n _ i 0 t ∙ ap (λ (m : ℕ). get_or l m 0) (omega (arith, add-mul (n * r) i (n * w))));
      }

  -- the three edges that each plane has, in a row of m pixels
  pub around : (m : ℕ) (right : List ℕ) → 1 + n ≤ m
      → (let row = row_above n m l w c r right in
      Around n l w c r (get_or row 0 0) (part n row 1) (left_of n l w c r) (has_above c r) (has_above c r) (has_left c r))
  unfolding left_of
  around m right e =
      record {
        above-outside = λ z. part-absent n m l w c r right z n 1 e;
        above-beside =
            λ h.
            let a = above p h in
            part-there n m l w c r right h n 1 ((n * r - 1) * (n * w) + n * c) e (omega arith) (omega arith) (omega arith) (omega arith);
        left-outside = λ z. let f = le-ltb 0 c (omega arith) in record { off = f; zeros = rw f };
        left-beside = left-column;
        top-left-outside = λ z. (le-ltb 0 r (omega arith), rw (row-zeros n m l w c r right z) (get_or-replicate m 0 0 0 (omega arith)));
        top-left-margin =
            λ h z.
            let q : n * c + 0 ≡ 0 = rw z (omega arith) in
            (lt-ltb 0 r h, row-pixel n m l w c r right h 0 (omega arith) ∙ pixel-margin l (n * w) (n * r - 1) right (n * c + 0) q);
        top-left-beside =
            λ h g.
            let a = above p h in
            let b = left p g in
            let q : n * c + 0 - 1 ≡ n * c - 1 = omega arith in (
              lt-ltb 0 r h,
              row-pixel n m l w c r right h 0 (omega arith) ∙ pixel-own l (n * w) (n * r - 1) right (n * c + 0) (omega arith) (omega arith)
                  ∙ ap (λ (j : ℕ). get_or l ((n * r - 1) * (n * w) + j) 0) q,
            );
      }

-- ---- the last four of a luma row
module _ (l : List ℕ) (w c r : ℕ) (right : List ℕ) where
  pub right-outside : r ≡ 0 → Absent 4 (has_above c r) (part 4 (row_above 16 21 l w c r right) 17)
  right-outside z = part-absent 16 21 l w c r right z 4 17 (omega arith)

  pub right-given : 0 < r → c + 1 ≡ w → length right ≡ 4 → (has_above c r ≡ true) × (part 4 (row_above 16 21 l w c r right) 17 ≡ right)
  unfolding part
  right-given h z e = (
    lt-ltb 0 r h,
    ext_get_or 0 (table 4 _) right (table-length 4 _ ∙ sym e)
        (λ i k.
        let b : i < 4 = rw (table-length 4 (λ j. get_or (row_above 16 21 l w c r right) (17 + j) 0)) at k in
        let q : 16 * c + (17 + i) - 16 * w - 1 ≡ i = omega arith in
        table_at 4 _ i 0 b ∙ row-pixel 16 21 l w c r right h (17 + i) (omega arith)
        ∙ pixel-right l (16 * w) (16 * r - 1) right (16 * c + (17 + i)) (omega arith) ∙ ap (λ (j : ℕ). get_or right j 0) q),
  )

  pub right-beside : Placed 16 l w c r → 0 < r → c + 1 < w
      → There l 4 (λ i. (16 * r - 1) * (16 * w) + (16 * c + 16) + i) (has_above c r) (part 4 (row_above 16 21 l w c r right) 17)
  right-beside p h g =
      let a = above p h in
      part-there 16 21 l w c r right h 4 17 ((16 * r - 1) * (16 * w) + (16 * c + 16)) (omega arith) (omega arith) (omega arith) (omega arith) (omega arith)

  -- elsewhere than in the last column below the first row the given pixels are not read
  pub right-unread : (s : List ℕ) → (r ≡ 0) ⊎ (c + 1 < w) → row_above 16 21 l w c r right ≡ row_above 16 21 l w c r s
  right-unread s =
      ⊎_elim (λ z. row-zeros 16 21 l w c r right z ∙ sym (row-zeros 16 21 l w c r s z)) (λ z. row-unread 16 21 w c r l right s (omega arith))
