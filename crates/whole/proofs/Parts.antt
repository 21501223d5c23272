-- The two parts of an integer: z is P z − N z, and one of them is 0. Through them `omega`, which reads only ℕ, reads and proves statements on ℤ:
-- `omega (arith, parts, add_parts x y)` takes each `≤ℤ`, `<ℤ` and `≡` on ℤ in reach; of a sum, a product or a negation the list names the law;
-- `unfolding P N` shows it literals.
-- Assumes nothing.
use mathlib.Core.Path.{◌≡◌, refl, ap}
use mathlib.Core.Bool.{Bool, true, false, not, cond}
use Prim.Native.Nat.{ℕ, zero, suc, ◌+◌, ◌*◌, ◌-◌, ◌<◌, ◌≤◌}
use native.Mathlib.Omega.{arith}
use lib.Dec.{T, ltb, ltb→lt, nltb→le, leb→le, le→leb, lt→ltb}
use lib.IntN.{ℤ, pos, negsuc, neg_ℤ, sub_ℕ, ◌+ℤ◌, ◌-ℤ◌, ◌*ℤ◌}
use lib.Signed.{◌≤ℤ◌, ◌<ℤ◌}

unfoldable pub P : ℤ → ℕ
P (pos n) = n
P (negsuc n) = 0

unfoldable pub N : ℤ → ℕ
N (pos n) = 0
N (negsuc n) = suc n

pub same : (x y : ℤ) → P x + N y ≡ P y + N x → x ≡ y
unfolding P N
same (pos a) (pos b) h = ap pos (omega arith)
same (pos a) (negsuc b) h = absurd (omega arith)
same (negsuc a) (pos b) h = absurd (omega arith)
same (negsuc a) (negsuc b) h = ap negsuc (omega arith)

pub eq-parts : (x y : ℤ) → x ≡ y → P x + N y ≡ P y + N x
eq-parts x y e = omega (arith, ap P e, ap N e)

pub le_parts : (x y : ℤ) → x ≤ℤ y → P x + N y ≤ P y + N x
unfolding P N
le_parts (pos a) (pos b) h = omega (arith, leb→le a b h.le)
le_parts (pos a) (negsuc b) h = absurd h.le
le_parts (negsuc a) (pos b) h = omega arith
le_parts (negsuc a) (negsuc b) h = omega (arith, leb→le b a h.le)

pub le-by : (x y : ℤ) → P x + N y ≤ P y + N x → x ≤ℤ y
unfolding P N
le-by (pos a) (pos b) h = record { le = le→leb a b (omega arith) }
le-by (pos a) (negsuc b) h = absurd (omega arith)
le-by (negsuc a) (pos b) h = record { le = tt }
le-by (negsuc a) (negsuc b) h = record { le = le→leb b a (omega arith) }

pub lt-parts : (x y : ℤ) → x <ℤ y → P x + N y < P y + N x
unfolding P N
lt-parts (pos a) (pos b) h = omega (arith, ltb→lt a b h.lt)
lt-parts (pos a) (negsuc b) h = absurd h.lt
lt-parts (negsuc a) (pos b) h = omega arith
lt-parts (negsuc a) (negsuc b) h = omega (arith, ltb→lt b a h.lt)

pub lt_by : (x y : ℤ) → P x + N y < P y + N x → x <ℤ y
unfolding P N
lt_by (pos a) (pos b) h = record { lt = lt→ltb a b (omega arith) }
lt_by (pos a) (negsuc b) h = absurd (omega arith)
lt_by (negsuc a) (pos b) h = record { lt = tt }
lt_by (negsuc a) (negsuc b) h = record { lt = lt→ltb b a (omega arith) }

-- for `omega`: it reads, and proves, a statement on ℤ by the parts
pub ruleset parts = (eq-parts, le_parts, lt-parts, same, le-by, lt_by)

-- the parts of a negation, a sum and a product
pub neg-P : (x : ℤ) → P (neg_ℤ x) ≡ N x
unfolding P N
neg-P (pos zero) = refl
neg-P (pos (suc n)) = refl
neg-P (negsuc n) = refl

pub neg-N : (x : ℤ) → N (neg_ℤ x) ≡ P x
unfolding P N
neg-N (pos zero) = refl
neg-N (pos (suc n)) = refl
neg-N (negsuc n) = refl

cond_ind : (c : Bool) (x y : ℤ) (Q : ℤ → Type 0) → (T c → Q x) → (T (not c) → Q y) → Q (cond c x y)
cond_ind true x y Q f g = f tt
cond_ind false x y Q f g = g tt

pub sub_parts : (a b : ℕ) → P (sub_ℕ a b) + b ≡ N (sub_ℕ a b) + a
unfolding P N
sub_parts a b =
    cond_ind (ltb a b) (negsuc (b - suc a)) (pos (a - b)) (λ z. P z + b ≡ N z + a)
    (λ t. below a b (ltb→lt a b t)) (λ t. above a b (nltb→le a b t))
  where
    below : (a b : ℕ) → a < b → 0 + b ≡ suc (b - suc a) + a
    below a b h = omega arith

    above : (a b : ℕ) → b ≤ a → (a - b) + b ≡ 0 + a
    above a b h = omega arith

pub add_parts : (x y : ℤ) → P (x +ℤ y) + (N x + N y) ≡ N (x +ℤ y) + (P x + P y)
unfolding P N
add_parts (pos a) (pos b) = omega arith
add_parts (pos a) (negsuc b) = omega (arith, sub_parts a (suc b))
add_parts (negsuc a) (pos b) = omega (arith, sub_parts b (suc a))
add_parts (negsuc a) (negsuc b) = omega arith

pub sub_is : (x y : ℤ) → P (x -ℤ y) + (N x + P y) ≡ N (x -ℤ y) + (P x + N y)
sub_is x y = omega (arith, add_parts x (neg_ℤ y), neg-P y, neg-N y)

pub mul-parts : (x y : ℤ) → P (x *ℤ y) + (P x * N y + N x * P y) ≡ N (x *ℤ y) + (P x * P y + N x * N y)
unfolding P N
mul-parts (pos a) (pos b) = omega arith
mul-parts (pos a) (negsuc b) = omega (arith, neg-P (pos (a * suc b)), neg-N (pos (a * suc b)))
mul-parts (negsuc a) (pos b) = omega (arith, neg-P (pos (suc a * b)), neg-N (pos (suc a * b)))
mul-parts (negsuc a) (negsuc b) = omega arith
