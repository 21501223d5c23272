-- The ring and the order of ℤ. Assumes nothing.
use mathlib.Core.Path.{◌≡◌}
use mathlib.Core.Logic.{◌⊎◌, inl, inr}
use Prim.Native.Nat.{ℕ, ◌+◌, ◌≤◌}
use native.Mathlib.Nat.{mul-le-mul_left, lt_of_mul-lt-mul_left}
use native.Mathlib.Decide.{dec_le}
use native.Mathlib.Omega.{arith}
use lib.IntN.{ℤ, pos, neg_ℤ, ◌+ℤ◌, ◌*ℤ◌}
use lib.Signed.{◌≤ℤ◌, ◌<ℤ◌}
use Rattle.whole.proofs.Parts.{P, N, parts}
use Rattle.whole.proofs.Linear.{linear, split2, split3, split4, ⊖-≤}

pub *ℤ-assoc : (x y z : ℤ) → (x *ℤ y) *ℤ z ≡ x *ℤ (y *ℤ z)
*ℤ-assoc = split3 _ λ a b c d e f. simp linear (omega arith)

pub *ℤ-distribl : (x y z : ℤ) → x *ℤ (y +ℤ z) ≡ x *ℤ y +ℤ x *ℤ z
*ℤ-distribl = split3 _ λ a b c d e f. simp linear (omega arith)

pub *ℤ-distribr : (x y z : ℤ) → (x +ℤ y) *ℤ z ≡ x *ℤ z +ℤ y *ℤ z
*ℤ-distribr = split3 _ λ a b c d e f. simp linear (omega arith)

pub *ℤ-neg : (x y : ℤ) → x *ℤ neg_ℤ y ≡ neg_ℤ (x *ℤ y)
*ℤ-neg = split2 _ λ a b c d. simp linear (omega arith)

pub ≤ℤ-trans : (x y z : ℤ) → x ≤ℤ y → y ≤ℤ z → x ≤ℤ z
≤ℤ-trans x y z h k = omega (arith, parts)

pub ≤ℤ-<ℤ-trans : (x y z : ℤ) → x ≤ℤ y → y <ℤ z → x <ℤ z
≤ℤ-<ℤ-trans x y z h k = omega (arith, parts)

pub <ℤ-≤ℤ : (x y : ℤ) → x <ℤ y → x ≤ℤ y
<ℤ-≤ℤ x y h = omega (arith, parts)

pub ≤ℤ-antisym : (x y : ℤ) → x ≤ℤ y → y ≤ℤ x → x ≡ y
≤ℤ-antisym x y h k = omega (arith, parts)

pub ≤ℤ-total : (x y : ℤ) → (x ≤ℤ y) ⊎ (y <ℤ x)
≤ℤ-total x y = by (dec_le (P x + N y) (P y + N x))
  where
    by : Dec (P x + N y ≤ P y + N x) → (x ≤ℤ y) ⊎ (y <ℤ x)
    by (yes h) = inl (omega (arith, parts))
    by (no h) = inr (omega (arith, parts))

pub +ℤ-mono : (x y z w : ℤ) → x ≤ℤ y → z ≤ℤ w → (x +ℤ z) ≤ℤ (y +ℤ w)
+ℤ-mono = split4 _ λ a b c d e f g h. simp linear (omega arith)

-- by a factor that is not negative
pub *ℤ-mono : (k : ℕ) (x y : ℤ) → x ≤ℤ y → (pos k *ℤ x) ≤ℤ (pos k *ℤ y)
*ℤ-mono k = split2 _ λ a b c d h. simp linear (omega (arith, mul-le-mul_left k ((⊖-≤ a b c d).0 h)))

pub *ℤ-cancel : (k : ℕ) (x y : ℤ) → (pos k *ℤ x) <ℤ (pos k *ℤ y) → x <ℤ y
*ℤ-cancel k = split2 _ λ a b c d. simp linear λ h. lt_of_mul-lt-mul_left k {m = a + d} {n = c + b} (omega arith)
