-- Laws of `total` and `largest`, beside those of `lists`.
--     largest-turn                  a loop that takes f i at turn i
--     largest-≤                     how far it grows; largest-at, total-at, that each number is at most as large
--     largest-ext                   rules that agree
--     largest-add                   in two parts
--     total-all                     every number the same
--     sum_by-total, fold-largest    a list's sum and its largest number, place by place
--     total-lanes, largest-lanes    lane by lane: w lanes of h, number j of lane k being number w j + k of all
-- Assumes nothing.
use mathlib.Core.Path.{◌≡◌, refl, sym, ap, ◌∙◌}
use mathlib.Core.List.{List, [], ◌∷◌}
use lib.ListN.{length, get_or}
use Rattle.std.specs.List.{sum_by, fold}
use Rattle.std.proofs.lemmas.List.Sums.{sum_by-cons}
use mathlib.Core.Logic.{⊎_elim}
use Prim.Native.Nat.{ℕ, zero, suc, ◌+◌, ◌*◌, ◌/◌, ◌%◌, ◌<◌, ◌≤◌, max}
use native.Mathlib.Nat.{add-zero, add-suc, suc-mul, mul-suc, mul-zero, mul_comm, le_antisymm, eq-or-lt_of_le, le_of_suc-le-suc, mul-le-mul_left, div-add-mod, mod-lt, div-lt_iff_lt-mul}
use native.Mathlib.Numerals.{add-one}
use native.Mathlib.Omega.{arith}
use Rattle.lists.specs.Lists.{total}
use Rattle.lists.proofs.Total.{total-add}
use Rattle.plane_distance.specs.Sums.{largest}

-- ---- a turn
pub largest-turn : (i : ℕ) (f : ℕ → ℕ) (s v : ℕ) → s ≡ largest i f → v ≡ f i → max s v ≡ largest (i + 1) f
unfolding largest
largest-turn i f s v e h = rw (add-one, e, h)

-- ---- bounds
pub total-at : (n : ℕ) (f : ℕ → ℕ) (i : ℕ) → i < n → f i ≤ total n f
unfolding total
total-at zero f i l = absurd (omega (arith, l))
total-at (suc n) f i l =
    ⊎_elim (λ e. rw e (omega arith)) (λ k. omega (arith, total-at n f i k)) (eq-or-lt_of_le (le_of_suc-le-suc l))

pub largest-≤ : (m n : ℕ) (f : ℕ → ℕ) → ((i : ℕ) → i < n → f i ≤ m) → largest n f ≤ m
unfolding largest
largest-≤ m zero f h = omega arith
largest-≤ m (suc n) f h = omega (arith, largest-≤ m n f (λ i l. h i (omega arith)), h n (omega arith))

pub largest-at : (n : ℕ) (f : ℕ → ℕ) (i : ℕ) → i < n → f i ≤ largest n f
unfolding largest
largest-at zero f i l = absurd (omega (arith, l))
largest-at (suc n) f i l =
    ⊎_elim (λ e. rw e (omega arith)) (λ k. omega (arith, largest-at n f i k)) (eq-or-lt_of_le (le_of_suc-le-suc l))

-- ---- rules that agree
pub largest-ext : (n : ℕ) (f g : ℕ → ℕ) → ((i : ℕ) → i < n → f i ≡ g i) → largest n f ≡ largest n g
unfolding largest
largest-ext zero f g h = refl
largest-ext (suc n) f g h = rw (largest-ext n f g (λ i l. h i (omega arith)), h n (omega arith))

-- ---- the first m, then n more
pub largest-add : (m n : ℕ) (f : ℕ → ℕ) → largest (m + n) f ≡ max (largest m f) (largest n (λ k. f (m + k)))
unfolding largest
largest-add m zero f = rw add-zero (omega arith)
largest-add m (suc n) f = rw add-suc (omega (arith, largest-add m n f))

-- ---- every number the same
pub total-all : (m n : ℕ) (f : ℕ → ℕ) → ((i : ℕ) → i < n → f i ≡ m) → total n f ≡ n * m
unfolding total
total-all m zero f h = omega arith
total-all m (suc n) f h = omega (arith, total-all m n f (λ i l. h i (omega arith)), h n (omega arith), suc-mul n m)

-- ---- a list, place by place: its first number before the others
total-front : (n : ℕ) (f : ℕ → ℕ) → total (suc n) f ≡ f 0 + total n (λ k. f (suc k))
unfolding total
total-front zero f = omega arith
total-front (suc n) f = omega (arith, total-front n f)

largest-front : (n : ℕ) (f : ℕ → ℕ) → largest (suc n) f ≡ max (f 0) (largest n (λ k. f (suc k)))
unfolding largest
largest-front zero f = omega arith
largest-front (suc n) f = omega (arith, largest-front n f)

pub sum_by-total : (f : ℕ → ℕ) (xs : List ℕ) → sum_by f xs ≡ total (length xs) (λ k. f (get_or xs k 0))
unfolding total
sum_by-total f [] = refl
sum_by-total f (x ∷ xs) =
    sum_by-cons f x xs ∙ ap (λ (n : ℕ). f x + n) (sum_by-total f xs) ∙ sym (total-front (length xs) (λ k. f (get_or (x ∷ xs) k 0)))

pub fold-largest : (h : ℕ) (xs : List ℕ) → fold max h xs ≡ max h (largest (length xs) (λ k. get_or xs k 0))
unfolding largest
fold-largest h [] = omega arith
fold-largest h (x ∷ xs) =
    omega (arith, fold-largest (max h x) xs, largest-front (length xs) (λ k. get_or (x ∷ xs) k 0))

-- ---- lane by lane
total-none : (n : ℕ) → total n (λ i. 0) ≡ 0
unfolding total
total-none zero = refl
total-none (suc n) = omega (arith, total-none n)

total-sum : (n : ℕ) (f g : ℕ → ℕ) → total n (λ k. f k + g k) ≡ total n f + total n g
unfolding total
total-sum zero f g = refl
total-sum (suc n) f g = omega (arith, total-sum n f g)

-- one number more in each lane
lanes-more : (w h : ℕ) (f : ℕ → ℕ → ℕ) → total w (λ k. total (suc h) (λ j. f j k)) ≡ total w (λ k. total h (λ j. f j k)) + total w (f h)
unfolding total
lanes-more w h f = total-sum w (λ k. total h (λ j. f j k)) (f h)

pub total-lanes : (w h : ℕ) (f : ℕ → ℕ) → total w (λ k. total h (λ j. f (w * j + k))) ≡ total (w * h) f
unfolding total
total-lanes w zero f = rw mul-zero (total-none w)
total-lanes w (suc h) f = lanes-more w h (λ j k. f (w * j + k)) ∙ rw (mul-suc w h, total-add (w * h) w f, total-lanes w h f)

pub largest-lanes : (w h : ℕ) (f : ℕ → ℕ) → 0 < w → largest w (λ k. largest h (λ j. f (w * j + k))) ≡ largest (w * h) f
largest-lanes w h f p =
    le_antisymm
    (largest-≤ _ w _ λ k l. largest-≤ _ h _ λ j m.
    largest-at (w * h) f (w * j + k) (let q : w * suc j ≤ w * h = mul-le-mul_left w m in omega (arith, q, mul-suc w j)))
    (largest-≤ _ (w * h) _ λ i l. own i (div-add-mod i w) (largest-at h (λ j. f (w * j + i % w)) (i / w) ((div-lt_iff_lt-mul p).1 (rw (mul_comm w h) at l)))
    (largest-at w (λ k. largest h (λ j. f (w * j + k))) (i % w) (mod-lt i p)))
  where
    own : (i : ℕ) {m n : ℕ} → w * (i / w) + i % w ≡ i → f (w * (i / w) + i % w) ≤ m → m ≤ n → f i ≤ n
    own i {m} {n} e a b = let c : f i ≤ m = rw e at a in omega arith
