-- Laws of `total`.
--     total-turn, total-≤      a loop that adds f i at turn i, and how far it grows
--     total_ext                rules that agree have equal totals
--     total-none               a rule of zeros
--     total-add, total-flat    in two parts, and row after row
--     sum-total                the sum of a list is the total of its entries
-- Assumes nothing.
use mathlib.Core.Path.{◌≡◌, refl, sym, ap, ◌∙◌}
use mathlib.Core.List.{List}
use Prim.Native.Nat.{ℕ, zero, suc, ◌+◌, ◌*◌, ◌<◌, ◌≤◌}
use native.Mathlib.Nat.{add-zero, add-suc, suc-mul, zero-mul}
use native.Mathlib.Numerals.{add-one}
use lib.ListN.{length, get_or, take}
use lib.Seq.{take_all}
use Rattle.std.specs.List.{sum_by}
use Rattle.std.proofs.lemmas.List.Sums.{sum_by_more}
use native.Mathlib.Omega.{arith}
use Rattle.lists.specs.Lists.{total}

pub total-turn : (i : ℕ) (f : ℕ → ℕ) (s v : ℕ) → s ≡ total i f → v ≡ f i → s + v ≡ total (i + 1) f
unfolding total
total-turn i f s v e h = rw (add-one, e, h)

-- n numbers of at most m
pub total-≤ : (m n : ℕ) (f : ℕ → ℕ) → ((i : ℕ) → i < n → f i ≤ m) → total n f ≤ n * m
unfolding total
total-≤ m zero f h = omega arith
total-≤ m (suc n) f h = omega (arith, total-≤ m n f (λ i l. h i (omega arith)), h n (omega arith), suc-mul n m)

pub total_ext : (n : ℕ) (f g : ℕ → ℕ) → ((i : ℕ) → i < n → f i ≡ g i) → total n f ≡ total n g
unfolding total
total_ext zero f g h = refl
total_ext (suc n) f g h = rw (total_ext n f g (λ i l. h i (omega arith)), h n (omega arith))

pub total-none : (n : ℕ) → total n (λ i. 0) ≡ 0
unfolding total
total-none zero = refl
total-none (suc n) = omega (arith, total-none n)

-- the first m, then n more
pub total-add : (m n : ℕ) (f : ℕ → ℕ) → total (m + n) f ≡ total m f + total n (λ k. f (m + k))
unfolding total
total-add m zero f = rw add-zero (omega arith)
total-add m (suc n) f = rw add-suc (omega (arith, total-add m n f))

-- h rows of w are one total, row after row
pub total-flat : (w h : ℕ) (f : ℕ → ℕ → ℕ) (g : ℕ → ℕ) → ((r c : ℕ) → r < h → c < w → f r c ≡ g (r * w + c))
    → total h (λ r. total w (f r)) ≡ total (h * w) g
unfolding total
total-flat w zero f g e = rw zero-mul
total-flat w (suc h) f g e =
    rw (suc-mul, total-add (h * w) w g, total-flat w h f g (λ r c l k. e r c (omega arith) k))
    (ap (λ (s : ℕ). total (h * w) g + s) (total_ext w (f h) (λ c. g (h * w + c)) (λ c k. e h c (omega arith) k)))

-- a sum over a list
module _ {X : Type 0} (f : X → ℕ) (xs : List X) (d : X) where
  sum-front : (n : ℕ) → n ≤ length xs → sum_by f (take n xs) ≡ total n (λ i. f (get_or xs i d))
  unfolding total
  sum-front zero h = refl
  sum-front (suc n) h =
      let e : suc n ≡ n + 1 = omega arith in
      ap (λ (m : ℕ). sum_by f (take m xs)) e ∙ sum_by_more f xs n d (omega arith) ∙ ap (λ (m : ℕ). m + f (get_or xs n d)) (sum-front n (omega arith))

  pub sum-total : (n : ℕ) → length xs ≡ n → sum_by f xs ≡ total n (λ i. f (get_or xs i d))
  sum-total n e = ap (sum_by f) (sym (take_all n xs (omega arith))) ∙ sum-front n (omega arith)
