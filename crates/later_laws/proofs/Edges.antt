-- The edges of the macroblock in row r and column c, in two planes l and m that have the same pixels in the macroblocks that the edges stand in.
-- Assumes nothing.
use Prim.Native.Nat.{ℕ, zero, suc, ◌+◌, ◌-◌, ◌*◌, ◌<◌, ◌≤◌}
use mathlib.Core.Path.{◌≡◌, refl, sym, ap, ◌∙◌}
use mathlib.Core.List.{List}
use mathlib.Core.Logic.{⊎_elim}
use native.Mathlib.Nat.{add-mul, mul-suc, mul-le-mul_left}
use native.Mathlib.Omega.{arith}
use borrow.Author.Tests.{lt-ltb}
use lib.ListN.{get_or}
use Rattle.lists.proofs.Table.{table-ext}
use Rattle.rfc6386.specs.Picture.{pixel_of, row_above, left_of}
use Rattle.gathering.proofs.Copied.{pixel-margin, pixel-own, pixel-right}
use Rattle.canvas.specs.Placed.{pixel_at}
use Rattle.walker_laws.proofs.Laid.{below}

-- the macroblock in row r and column c has the same pixels in both
abbrev pub SameBlock : ℕ → ℕ → List ℕ → List ℕ → ℕ → ℕ → Type 0
SameBlock n w l m r c = (i x : ℕ) → i < n → x < n → get_or l (pixel_at n w c r i x) 0 ≡ get_or m (pixel_at n w c r i x) 0

-- ---- places of the edges: each is of the last row or the last column of the macroblock that it stands in
last_row : (n w r c i : ℕ) → 0 < n → (n * suc r - 1) * (n * w) + n * c + i ≡ pixel_at n w c r (n - 1) i
unfolding pixel_at
last_row n w r c i h =
    let e : n * suc r - 1 ≡ n * r + (n - 1) = omega arith in
    rw (e, add-mul (n * r) (n - 1) (n * w))

last-column : (n w r c i : ℕ) → 0 < n → n * r * (n * w) + (n * suc c - 1) + i * (n * w) ≡ pixel_at n w c r i (n - 1)
unfolding pixel_at
last-column n w r c i h = omega arith

sym-assoc : (a b x : ℕ) → a + (b + x) ≡ a + b + x
sym-assoc a b x = omega arith

pub last-pixel : (n w r c : ℕ) → 0 < n → (n * suc r - 1) * (n * w) + (n * suc c - 1) ≡ pixel_at n w c r (n - 1) (n - 1)
last-pixel n w r c h =
    let e : (n * suc r - 1) * (n * w) + (n * suc c - 1) ≡ (n * suc r - 1) * (n * w) + n * c + (n - 1) = omega arith in
    e ∙ last_row n w r c (n - 1) h

module _ (n w : ℕ) (l m : List ℕ) (some : 0 < n) where
  pub left-same : (r c : ℕ) → ((s : ℕ) → c ≡ suc s → SameBlock n w l m r s) → left_of n l w c r ≡ left_of n m w c r
  unfolding left_of
  left-same r zero h = refl
  left-same r (suc c) h =
      rw (lt-ltb 0 (suc c) (omega arith)) (table-ext n _ _ (λ i k. rw (last-column n w r c i some) (h c refl i (n - 1) k (omega arith))))

-- ---- the row above, k pixels of it: the corner, the n above, and what stands right of them, up to four
module _ (n w : ℕ) (l m : List ℕ) (four : 4 ≤ n) (right other : List ℕ) (k r c : ℕ) (most : k ≤ n + 5) (inside : c < w)
    (corner : (t : ℕ) → c ≡ suc t → SameBlock n w l m r t) (over : SameBlock n w l m r c)
    (beside : n + 1 < k → c + 1 < w → SameBlock n w l m r (suc c)) (given : n + 1 < k → w ≤ c + 1 → right ≡ other) where
  abbrev there : List ℕ → List ℕ → ℕ → ℕ
  there q s i = pixel_of q (n * w) (n * suc r - 1) s (n * c + i)

  row_room : n * c + n ≤ n * w
  row_room = rw (← mul-suc) (mul-le-mul_left n inside)

  -- an own pixel of the row, by the macroblock that it stands in
  own : (i t x : ℕ) → 1 ≤ n * c + i → n * c + i ≤ n * w → n * c + i - 1 ≡ n * t + x → x < n → SameBlock n w l m r t → there l right i ≡ there m other i
  own i t x a b e h s =
      let q : (n * suc r - 1) * (n * w) + (n * c + i - 1) ≡ pixel_at n w t r (n - 1) x = rw e (sym-assoc ((n * suc r - 1) * (n * w)) (n * t) x ∙ last_row n w r t x (omega arith)) in
      pixel-own l (n * w) (n * suc r - 1) right (n * c + i) a b ∙ rw q (s (n - 1) x (omega arith) h)
      ∙ sym (pixel-own m (n * w) (n * suc r - 1) other (n * c + i) a b)

  first-pixel : (d : ℕ) → c ≡ d → there l right 0 ≡ there m other 0
  first-pixel zero e =
      let z : n * c + 0 ≡ 0 = rw e (omega arith) in
      pixel-margin l (n * w) (n * suc r - 1) right (n * c + 0) z ∙ sym (pixel-margin m (n * w) (n * suc r - 1) other (n * c + 0) z)
  first-pixel (suc t) e =
      let g : n * c ≡ n * t + n = rw e (mul-suc n t) in
      let b : n * c + n ≤ n * w = row_room in
      own 0 t (n - 1) (omega arith) (omega arith) (omega arith) (omega arith) (corner t e)

  later-pixel : (i : ℕ) → n < i → i < k → there l right i ≡ there m other i
  later-pixel i a b =
      ⊎_elim
      (λ h.
      let g : n * suc (suc c) ≤ n * w = mul-le-mul_left n h in
      let u : n * suc (suc c) ≡ n * c + n + n = mul-suc n (suc c) ∙ ap (λ (x : ℕ). x + n) (mul-suc n c) in
      let v : n * suc c ≡ n * c + n = mul-suc n c in
      own i (suc c) (i - n - 1) (omega arith) (omega arith) (omega arith) (omega arith) (beside (omega arith) (omega arith)))
      (λ h.
      let g : w ≡ suc c = omega arith in
      let v : n * w ≡ n * c + n = rw g (mul-suc n c) in
      pixel-right l (n * w) (n * suc r - 1) right (n * c + i) (omega arith)
      ∙ ap (λ (x : List ℕ). get_or x (n * c + i - n * w - 1) 0) (given (omega arith) (omega arith))
      ∙ sym (pixel-right m (n * w) (n * suc r - 1) other (n * c + i) (omega arith)))
      (below (suc c) w)

  by-pixel : (i : ℕ) → i < k → there l right i ≡ there m other i
  by-pixel zero h = first-pixel c refl
  by-pixel (suc i) h =
      ⊎_elim (λ a. let b : n * c + n ≤ n * w = row_room in own (suc i) c i (omega arith) (omega arith) (omega arith) a over) (λ a. later-pixel (suc i) (omega arith) h) (below i n)

  pub row-below-same : row_above n k l w c (suc r) right ≡ row_above n k m w c (suc r) other
  unfolding row_above
  row-below-same = rw (lt-ltb 0 (suc r) (omega arith)) (table-ext k _ _ by-pixel)

pub row_same : (n w : ℕ) (l m : List ℕ) (right other : List ℕ) (k r c : ℕ) → 4 ≤ n → k ≤ n + 5 → c < w
    → ((s t : ℕ) → r ≡ suc s → c ≡ suc t → SameBlock n w l m s t) → ((s : ℕ) → r ≡ suc s → SameBlock n w l m s c)
    → (n + 1 < k → (s : ℕ) → r ≡ suc s → c + 1 < w → SameBlock n w l m s (suc c)) → (n + 1 < k → (s : ℕ) → r ≡ suc s → w ≤ c + 1 → right ≡ other)
    → row_above n k l w c r right ≡ row_above n k m w c r other
unfolding row_above
row_same n w l m right other k zero c f b i corner over beside given = refl
row_same n w l m right other k (suc r) c f b i corner over beside given =
    row-below-same n w l m f right other k r c b i (λ t e. corner r t refl e) (over r refl) (λ q h. beside q r refl h) (λ q h. given q r refl h)
