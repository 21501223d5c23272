-- Ranges: from -B to B, and from -h to h - 1, as a signed width holds. Assumes nothing.
use mathlib.Core.Path.{◌≡◌, refl}
use Prim.Native.Nat.{ℕ, zero, suc, ◌+◌, ◌*◌, ◌^◌, ◌<◌, ◌≤◌}
use native.Mathlib.Nat.{mul-le-mul_left, mul-le-mul_right, le_refl}
use native.Mathlib.Omega.{arith}
use lib.IntN.{ℤ, pos, negsuc, neg_ℤ, nat_abs, ◌+ℤ◌, ◌-ℤ◌, ◌*ℤ◌}
use lib.Signed.{◌≤ℤ◌, ◌<ℤ◌, shr_z, mag_shr}
use mir.Syntax.{Width, w32}
use mir.Val.{hbits, SFits}
use Rattle.whole.proofs.Parts.{P, N, parts, neg-P, neg-N}
use Rattle.whole.proofs.Linear.{linear, split, split2}

abbrev pub Small : ℕ → ℤ → Type 0
Small B z = (neg_ℤ (pos B) ≤ℤ z) × (z ≤ℤ pos B)

abbrev pub Signed : ℕ → ℤ → Type 0
Signed h z = (neg_ℤ (pos h) ≤ℤ z) × (z <ℤ pos h)

pub small_signed : (B h : ℕ) → B < h → (z : ℤ) → Small B z → Signed h z
small_signed B h l = split _ λ _ _. simp linear (omega arith)

pub small-wider : (B C : ℕ) → B ≤ C → (z : ℤ) → Small B z → Small C z
small-wider B C l = split _ λ _ _. simp linear (omega arith)

pub small-add : (a b c : ℕ) → a + b ≤ c → (x y : ℤ) → Small a x → Small b y → Small c (x +ℤ y)
small-add a b c l = split2 _ λ _ _ _ _. simp linear (omega arith)

pub small-sub : (a b c : ℕ) → a + b ≤ c → (x y : ℤ) → Small a x → Small b y → Small c (x -ℤ y)
small-sub a b c l = split2 _ λ _ _ _ _. simp linear (omega arith)

pub small-scale : (k B C : ℕ) → k * B ≤ C → (x : ℤ) → Small B x → Small C (pos k *ℤ x)
small-scale k B C l =
    split _ λ _ _. simp linear (λ h. omega (arith, mul-le-mul_left k h.0, mul-le-mul_left k h.1))

-- by the distance from 0, and so of a product
pub small-abs : (B : ℕ) (z : ℤ) → Small B z → nat_abs z ≤ B
unfolding P N
small-abs B (pos n) h = omega (arith, parts)
small-abs B (negsuc n) h = omega (arith, parts, neg-P (pos B), neg-N (pos B))

pub abs-small : (B : ℕ) (z : ℤ) → nat_abs z ≤ B → Small B z
unfolding P N
abs-small B (pos n) h = omega (arith, parts, neg-P (pos B), neg-N (pos B))
abs-small B (negsuc n) h = omega (arith, parts, neg-P (pos B), neg-N (pos B))

abs_neg : (n : ℕ) → nat_abs (neg_ℤ (pos n)) ≡ n
abs_neg zero = refl
abs_neg (suc n) = refl

pub abs-mul : (x y : ℤ) → nat_abs (x *ℤ y) ≡ nat_abs x * nat_abs y
abs-mul (pos a) (pos b) = refl
abs-mul (pos a) (negsuc b) = abs_neg (a * suc b)
abs-mul (negsuc a) (pos b) = abs_neg (suc a * b)
abs-mul (negsuc a) (negsuc b) = refl

pub small_mul : (A B C : ℕ) → A * B ≤ C → (x y : ℤ) → Small A x → Small B y → Small C (x *ℤ y)
small_mul A B C l x y h k =
    abs-small C (x *ℤ y)
    (omega
    (arith, abs-mul x y, mul-le-mul_left (nat_abs x) (small-abs B y k), mul-le-mul_right B (small-abs A x h)))

pub abs-add : (x y : ℤ) → nat_abs (x +ℤ y) ≤ nat_abs x + nat_abs y
abs-add x y =
    let a = nat_abs x in
    let b = nat_abs y in
    small-abs (a + b) (x +ℤ y) (small-add a b (a + b) (le_refl (a + b)) x y (abs-small a x (le_refl a)) (abs-small b y (le_refl b)))

pub abs-sub : (x y : ℤ) → nat_abs (x -ℤ y) ≤ nat_abs x + nat_abs y
abs-sub x y =
    let a = nat_abs x in
    let b = nat_abs y in
    small-abs (a + b) (x -ℤ y) (small-sub a b (a + b) (le_refl (a + b)) x y (abs-small a x (le_refl a)) (abs-small b y (le_refl b)))

-- a signed width's own range, as MIR has it
pub signed-sfits : (w : Width) (z : ℤ) → Signed (2 ^ hbits w) z → SFits w z
unfolding P N
signed-sfits w (pos n) h = record { sfits = omega (arith, parts, neg-P (pos (2 ^ hbits w)), neg-N (pos (2 ^ hbits w))) }
signed-sfits w (negsuc n) h = record { sfits = omega (arith, parts, neg-P (pos (2 ^ hbits w)), neg-N (pos (2 ^ hbits w))) }

pub sfits-signed : (w : Width) (z : ℤ) → SFits w z → Signed (2 ^ hbits w) z
unfolding P N
sfits-signed w (pos n) h = omega (arith, parts, neg-P (pos (2 ^ hbits w)), neg-N (pos (2 ^ hbits w)))
sfits-signed w (negsuc n) h = omega (arith, parts, neg-P (pos (2 ^ hbits w)), neg-N (pos (2 ^ hbits w)))

pub sfits_wider : (v w : Width) (z : ℤ) → 2 ^ hbits v ≤ 2 ^ hbits w → SFits v z → SFits w z
sfits_wider v w z l f = record { sfits = omega (arith, f.sfits) }

pub sfits_shr : (w : Width) (z : ℤ) (m : ℕ) → SFits w z → SFits w (shr_z z m)
sfits_shr w z m f = record { sfits = omega (arith, f.sfits, mag_shr z m) }

pub word_small : (z : ℤ) → SFits w32 z → Small 2147483648 z
word_small z f = at z (sfits-signed w32 z f)
  where
    at : (z : ℤ) → Signed 2147483648 z → Small 2147483648 z
    at = split _ λ _ _. simp linear (omega arith)
