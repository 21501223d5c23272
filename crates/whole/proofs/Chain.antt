-- A chain of signed operations, followed step by step: what the machine has at each step, the number that it is, and a bound on its magnitude.
-- Each step of the code is one combinator, so an answer has the shape of the code. The bounds are numerals and are computed. Assumes nothing.
use Prim.Native.Nat.{ℕ, ◌+◌, ◌*◌, ◌≤◌}
use native.Mathlib.Nat.{le_trans, lt_of_le_of_lt, mul-le-mul, div-le_self, le_of_eq}
use native.Mathlib.Omega.{arith}
use mathlib.Core.Path.{◌≡◌, refl, ap, ◌∙◌}
use lib.IntN.{ℤ, pos, negsuc, nat_abs, ◌+ℤ◌, ◌-ℤ◌, ◌*ℤ◌}
use lib.Signed.{shr_z}
use lib.Dec.{T, ltb, ltb→lt}
use mir.Syntax.{w16, w32}
use mir.Val.{SFits}
use mir.Facts.{to_z-of_z}
use Rattle.whole.proofs.Range.{abs-add, abs-sub, abs-mul}
use Rattle.whole.proofs.Held.{R32, R16, abs-fits, fits-abs}

-- z, as the machine has it, is v, whose magnitude is at most B
pub record Is (B : ℕ) (z v : ℤ) : Type 0 where
  pub is : z ≡ v
  pub small : nat_abs v ≤ B

module _ {B : ℕ} {z v : ℤ} (e : Is B z v) where
  pub bound : nat_abs z ≤ B
  bound = rw e.is e.small

  pub weaker : {C : ℕ} → B ≤ C → Is C z v
  weaker h = record { is = e.is; small = le_trans e.small h }

  -- it fits: `fits32 e tt`
  pub fits32 : T (ltb B 2147483648) → SFits w32 z
  fits32 t = rw e.is (fits-abs w32 v (lt_of_le_of_lt e.small (ltb→lt B 2147483648 t)))

  -- so it is read back from a local as it was written
  pub held : T (ltb B 2147483648) → Is B (R32 z) v
  held t = record { is = to_z-of_z (fits32 t) ∙ e.is; small = e.small }

  pub down : (m : ℕ) → Is B (shr_z z m) (shr_z v m)
  down m = record { is = ap (λ (x : ℤ). shr_z x m) e.is; small = le_trans (less v) e.small }
    where
      less : (v : ℤ) → nat_abs (shr_z v m) ≤ nat_abs v
      less (pos a) = div-le_self a m
      less (negsuc a) = omega (arith, div-le_self a m)

module _ {B C : ℕ} {x y v w : ℤ} (e : Is B x v) (f : Is C y w) where
  pub plus : Is (B + C) (x +ℤ y) (v +ℤ w)
  plus = record { is = cc; small = omega (arith, abs-add v w) }

  pub minus : Is (B + C) (x -ℤ y) (v -ℤ w)
  minus = record { is = cc; small = omega (arith, abs-sub v w) }

  pub times : Is (B * C) (x *ℤ y) (v *ℤ w)
  times = record { is = cc; small = le_trans (le_of_eq (abs-mul v w)) (mul-le-mul e.small f.small) }

-- a number written out
pub lit : (v : ℤ) → Is (nat_abs v) v v
lit v = record { is = refl; small = omega arith }

-- a number of which a bound is known
pub known : {B : ℕ} (v : ℤ) → nat_abs v ≤ B → Is B v v
known v h = record { is = refl; small = h }

-- a number of 16 bits
pub short : (v : ℤ) → SFits w16 v → Is 32768 v v
short v f = record { is = refl; small = abs-fits w16 v f }

-- a number of 16 bits that was passed on and widened
pub widened : {r v : ℤ} → SFits w16 v → r ≡ R16 v → Is 32768 (R32 r) v
widened {r} {v} f e = held (record { is = e ∙ to_z-of_z f; small = abs-fits w16 v f }) tt
