-- The row above a macroblock, as the code copies it: inside the picture one part of the plane, at its ends pixel by pixel of the picture's row; and the
-- column left of it.
-- Assumes nothing.
use Prim.Native.Nat.{ℕ, zero, suc, ◌+◌, ◌-◌, ◌*◌, ◌<◌, ◌≤◌}
use mathlib.Core.Bool.{Bool, true, false}
use mathlib.Core.Path.{◌≡◌, refl, sym, ap, ◌∙◌}
use mathlib.Core.List.{List}
use native.Mathlib.Omega.{arith}
use borrow.Author.Tests.{lt-ltb, le-ltb, le-leb, lt-leb}
use lib.Dec.{ltb, leb, leb→le}
use lib.ListN.{length, get_or, replicate}
use lib.Seq.{ext_get_or}
use Rattle.lists.specs.Lists.{table, pick}
use Rattle.lists.proofs.Table.{table-length, table_at, table-ext}
use Rattle.lists.proofs.Tests.{true-T}
use Rattle.rfc6386.specs.Picture.{row_part, pixel_of, row_above}
use Rattle.row_part.proofs.Given.{part_length, part_at}
use Rattle.picture_limits.specs.Place.{Placed}
use Rattle.picture_limits.proofs.Bounds.{above, left, bounds}
use Rattle.gathering.specs.Steps.{pixel_in}

-- ---- a pixel of a row: left of the picture, its own, right of it
module _ (l : List ℕ) (s t : ℕ) (right : List ℕ) where
  pub pixel-margin : (x : ℕ) → x ≡ 0 → pixel_of l s t right x ≡ 129
  unfolding pixel_of
  pixel-margin x e = rw (lt-ltb x 1 (omega arith))

  pub pixel-own : (x : ℕ) → 1 ≤ x → x ≤ s → pixel_of l s t right x ≡ get_or l (t * s + (x - 1)) 0
  unfolding pixel_of
  pixel-own x a b = rw (le-ltb x 1 a, le-leb x s b)

  pub pixel-right : (x : ℕ) → s < x → pixel_of l s t right x ≡ get_or right (x - s - 1) 0
  unfolding pixel_of
  pixel-right x a = rw (le-ltb x 1 (omega arith), lt-leb x s a)

-- where no pixel of the row lies right of the picture, those given are not read
same-pixel : (l : List ℕ) (s t : ℕ) (right others : List ℕ) (x : ℕ) → x ≤ s → pixel_of l s t right x ≡ pixel_of l s t others x
unfolding pixel_of
same-pixel l s t right others x h = rw (le-leb x s h)

pub row-unread : (n m w c r : ℕ) (l right others : List ℕ) → n * c + m ≤ n * w + 1 → row_above n m l w c r right ≡ row_above n m l w c r others
unfolding row_above
row-unread n m w c r l right others h =
    ap (λ (row : List ℕ). pick (ltb 0 r) row (replicate m 0))
    (table-ext m _ _ (λ i k. same-pixel l (n * w) (n * r - 1) right others (n * c + i) (omega arith)))

-- ---- a pixel of the row as it is read from the picture's row by itself
module _ (l : List ℕ) (s t : ℕ) (right row : List ℕ) (size : length row ≡ s) (same : (i : ℕ) → i < s → get_or row i 0 ≡ get_or l (t * s + i) 0) where
  by_place : (x : ℕ) (b : Bool) → leb x s ≡ b → 1 ≤ x → pixel_in row right x ≡ pixel_of l s t right x
  unfolding pixel_in pixel_of
  by_place x true e a =
      let h : x ≤ s = leb→le x s (true-T (sym e)) in
      rw (size, le-ltb x 1 a, e) (same (x - 1) (omega arith))
  by_place x false e a = rw (size, le-ltb x 1 a, e)

  pub pixel-read : (x : ℕ) → pixel_in row right x ≡ pixel_of l s t right x
  unfolding pixel_in pixel_of
  pixel-read zero = refl
  pixel-read (suc x) = by_place (suc x) (leb (suc x) s) refl (omega arith)

whole_row : (s : ℕ) → 0 + s ≤ s
whole_row s = omega arith

module _ {n : ℕ} {l : List ℕ} {w c r : ℕ} (p : Placed n l w c r) where
  -- the picture's row above the macroblock, all of it
  module _ (h : 0 < r) (row : List ℕ) (e : row ≡ row_part l (n * w) (n * r - 1) 0 (n * w)) where
    some : 1 ≤ n * w
    some = let a = bounds p in let s = p.some in omega arith

    room : (n * r - 1) * (n * w) + 0 + n * w ≤ length l
    room = let a = above p h in omega arith

    pub row-length : length row ≡ n * w
    row-length = rw (e, part_length l (n * w) (n * r - 1) 0 (n * w) some (whole_row (n * w)) room) refl

    row_at : (i : ℕ) → i < n * w → get_or row i 0 ≡ get_or l ((n * r - 1) * (n * w) + i) 0
    row_at i k =
        let q : (n * r - 1) * (n * w) + 0 + i ≡ (n * r - 1) * (n * w) + i = omega arith in
        rw (e, ← q) (part_at l (n * w) (n * r - 1) 0 (n * w) some (whole_row (n * w)) room i k)

    pub border-is : (m : ℕ) (right ys : List ℕ) → ys ≡ table m (λ i. pixel_in row right (n * c + i)) → ys ≡ row_above n m l w c r right
    unfolding row_above
    border-is m right ys f =
        f ∙ rw (lt-ltb 0 r h) (table-ext m _ _ (λ i _. pixel-read l (n * w) (n * r - 1) right row row-length row_at (n * c + i)))

  -- m pixels from the one before the macroblock's column on, where the picture has them
  module _ (h : 0 < r) (g : 0 < c) (m : ℕ) (one : 1 ≤ m) (t : n * c - 1 + m ≤ n * w) (part : List ℕ) (e : part ≡ row_part l (n * w) (n * r - 1) (n * c - 1) m) where
    within : (n * r - 1) * (n * w) + (n * c - 1) + m ≤ length l
    within = let a = above p h in omega arith

    pub inside-length : length part ≡ m
    inside-length = rw (e, part_length l (n * w) (n * r - 1) (n * c - 1) m one t within) refl

    pub inside-is : (right ys : List ℕ) → ys ≡ part → ys ≡ row_above n m l w c r right
    unfolding row_above
    inside-is right ys f =
        let side = (left p g).side in
        f
        ∙ rw (lt-ltb 0 r h)
        (ext_get_or 0 part _ (inside-length ∙ sym (table-length m _))
        (λ i k.
        let b : i < m = rw inside-length at k in
        let q : (n * r - 1) * (n * w) + (n * c - 1) + i ≡ (n * r - 1) * (n * w) + (n * c + i - 1) = omega arith in
        rw e (part_at l (n * w) (n * r - 1) (n * c - 1) m one t within i b) ∙ ap (λ (j : ℕ). get_or l j 0) q
        ∙ sym (table_at m _ i 0 b ∙ pixel-own l (n * w) (n * r - 1) right (n * c + i) (omega arith) (omega arith))))

  -- the column of pixels before the macroblock lies in the plane
  pub column-room : 0 < c → (1 ≤ n * w) × (n * r * (n * w) + (n * c - 1) + n * (n * w) < length l + n * w)
  column-room h = let a = left p h in (omega arith, omega arith)
