-- Linear arithmetic on ℤ, over variables: `law = split3 _ λ a b c d e f. simp linear (omega arith)` proves a statement `(x y z : ℤ) → .. → ..` of
-- sums, differences, products, `≡`, `≤ℤ` and `<ℤ`, its hypotheses read too. Each variable becomes a difference `a ⊖ b` of two naturals, `simp linear`
-- turns each statement into one over ℕ, and `omega` is left with that. A sum inside an order stands in parentheses, `(x +ℤ y) ≤ℤ z`: the order binds tighter.
-- Assumes nothing.
use mathlib.Core.Path.{◌≡◌, ap, subst}
use mathlib.Core.Logic.{◌↔◌}
use Prim.Native.Nat.{ℕ, suc, ◌+◌, ◌*◌, ◌<◌, ◌≤◌}
use native.Mathlib.Omega.{arith}
use lib.IntN.{ℤ, pos, negsuc, neg_ℤ, sub_ℕ, ◌+ℤ◌, ◌*ℤ◌}
use lib.Signed.{◌≤ℤ◌, ◌<ℤ◌}
use Rattle.whole.proofs.Parts.{P, N, same, le_parts, le-by, lt-parts, lt_by, neg-P, neg-N, sub_parts, add_parts, mul-parts}

infix 55 ◌⊖◌
unfoldable pub ◌⊖◌ : ℕ → ℕ → ℤ
a ⊖ b = sub_ℕ a b

pub ⊖-parts : (a b : ℕ) → P (a ⊖ b) + b ≡ N (a ⊖ b) + a
unfolding ◌⊖◌
⊖-parts a b = sub_parts a b

pub pos-⊖ : (a : ℕ) → pos a ≡ a ⊖ 0
unfolding P N
pos-⊖ a = same (pos a) (a ⊖ 0) (omega (arith, ⊖-parts a 0))

pub negsuc-⊖ : (a : ℕ) → negsuc a ≡ 0 ⊖ suc a
unfolding P N
negsuc-⊖ a = same (negsuc a) (0 ⊖ suc a) (omega (arith, ⊖-parts 0 (suc a)))

pub neg-pos-⊖ : (a : ℕ) → neg_ℤ (pos a) ≡ 0 ⊖ a
unfolding P N
neg-pos-⊖ a = same (neg_ℤ (pos a)) (0 ⊖ a) (omega (arith, ⊖-parts 0 a, neg-P (pos a), neg-N (pos a)))

pub ⊖-neg : (a b : ℕ) → neg_ℤ (a ⊖ b) ≡ b ⊖ a
⊖-neg a b =
    same (neg_ℤ (a ⊖ b)) (b ⊖ a) (omega (arith, ⊖-parts a b, ⊖-parts b a, neg-P (a ⊖ b), neg-N (a ⊖ b)))

pub ⊖-add : (a b c d : ℕ) → a ⊖ b +ℤ c ⊖ d ≡ (a + c) ⊖ (b + d)
⊖-add a b c d =
    same (a ⊖ b +ℤ c ⊖ d) ((a + c) ⊖ (b + d))
    (omega (arith, ⊖-parts a b, ⊖-parts c d, ⊖-parts (a + c) (b + d), add_parts (a ⊖ b) (c ⊖ d)))

-- one factor's equation times the other's
cross : (a b p n c d q m : ℕ) → p + b ≡ n + a → q + d ≡ m + c
    → p * q + n * m + (a * d + b * c) ≡ p * m + n * q + (a * c + b * d)
cross a b p n c d q m e f =
    omega (arith, ap (λ (t : ℕ). t * q) e, ap (λ (t : ℕ). t * m) e, ap (λ (t : ℕ). a * t) f, ap (λ (t : ℕ). b * t) f)

pub ⊖-mul : (a b c d : ℕ) → a ⊖ b *ℤ c ⊖ d ≡ (a * c + b * d) ⊖ (a * d + b * c)
⊖-mul a b c d =
    same (a ⊖ b *ℤ c ⊖ d) ((a * c + b * d) ⊖ (a * d + b * c))
    (omega (
      arith,
      cross a b (P (a ⊖ b)) (N (a ⊖ b)) c d (P (c ⊖ d)) (N (c ⊖ d)) (⊖-parts a b) (⊖-parts c d),
      mul-parts (a ⊖ b) (c ⊖ d),
      ⊖-parts (a * c + b * d) (a * d + b * c),
    ))

pub ⊖-≡ : (a b c d : ℕ) → (a ⊖ b ≡ c ⊖ d) ↔ (a + d ≡ c + b)
⊖-≡ a b c d = (
  λ e. omega (arith, ⊖-parts a b, ⊖-parts c d, ap P e, ap N e),
  λ h. same (a ⊖ b) (c ⊖ d) (omega (arith, ⊖-parts a b, ⊖-parts c d)),
)

pub ⊖-≤ : (a b c d : ℕ) → (a ⊖ b ≤ℤ c ⊖ d) ↔ (a + d ≤ c + b)
⊖-≤ a b c d = (
  λ e. omega (arith, ⊖-parts a b, ⊖-parts c d, le_parts (a ⊖ b) (c ⊖ d) e),
  λ h. le-by (a ⊖ b) (c ⊖ d) (omega (arith, ⊖-parts a b, ⊖-parts c d)),
)

pub ⊖-< : (a b c d : ℕ) → (a ⊖ b <ℤ c ⊖ d) ↔ (a + d < c + b)
⊖-< a b c d = (
  λ e. omega (arith, ⊖-parts a b, ⊖-parts c d, lt-parts (a ⊖ b) (c ⊖ d) e),
  λ h. lt_by (a ⊖ b) (c ⊖ d) (omega (arith, ⊖-parts a b, ⊖-parts c d)),
)

-- for `simp`: a statement on differences, as one over ℕ
pub ruleset linear = (pos-⊖, negsuc-⊖, neg-pos-⊖, ⊖-neg, ⊖-add, ⊖-mul, ⊖-≡, ⊖-≤, ⊖-<)

-- what holds of every difference holds of every integer; for two variables, and so on
pub split-is : (x : ℤ) → P x ⊖ N x ≡ x
split-is x = same (P x ⊖ N x) x (omega (arith, ⊖-parts (P x) (N x)))

pub split : (Q : ℤ → Type 0) → ((a b : ℕ) → Q (a ⊖ b)) → (x : ℤ) → Q x
split Q f x = subst Q (split-is x) (f (P x) (N x))

pub split2 : (Q : ℤ → ℤ → Type 0) → ((a b c d : ℕ) → Q (a ⊖ b) (c ⊖ d)) → (x y : ℤ) → Q x y
split2 Q f x y = split (λ u. Q u y) (λ a b. split (Q (a ⊖ b)) (f a b) y) x

pub split3 : (Q : ℤ → ℤ → ℤ → Type 0) → ((a b c d e f : ℕ) → Q (a ⊖ b) (c ⊖ d) (e ⊖ f)) → (x y z : ℤ) → Q x y z
split3 Q f x y z = split (λ u. Q u y z) (λ a b. split2 (Q (a ⊖ b)) (f a b) y z) x

pub split4 : (Q : ℤ → ℤ → ℤ → ℤ → Type 0)
    → ((a b c d e f g h : ℕ) → Q (a ⊖ b) (c ⊖ d) (e ⊖ f) (g ⊖ h)) → (x y z w : ℤ) → Q x y z w
split4 Q f x y z w = split2 (λ u v. Q u v z w) (λ a b c d. split2 (Q (a ⊖ b) (c ⊖ d)) (f a b c d) z w) x y
