-- What a local of 32 or of 16 bits gives back: a need shows each value that went through a local as `to_z w (of_z w z)`, and these laws take it off.
--     held32, held16   a call's result: `held32 c.F.result c.F.ok`
--     shr-held         a call's result shifted down in place, `f(..) >> k`
--     elem16           an element of an array of 16-bit numbers, from what is known of the array: `elem16 c.args.xs c.good.0.0 k c.good.0.1.1`
--     add64 ..         two 32-bit numbers: their sum, difference and product fit 64 bits
-- Assumes nothing.
use Prim.Native.Nat.{ℕ, zero, suc, ◌^◌, ◌/◌, ◌≤◌, ◌<◌}
use native.Mathlib.Omega.{arith}
use native.Mathlib.Nat.{mul-le-mul, lt_of_le_of_lt}
use mathlib.Core.Path.{◌≡◌}
use mathlib.Core.List.{List, [], ◌∷◌}
use lib.IntN.{ℤ, pos, negsuc, nat_abs, neg_ℤ, ◌+ℤ◌, ◌-ℤ◌, ◌*ℤ◌}
use lib.ListN.{get_or}
use lib.Signed.{mag, quot_z, shr_z, nat_abs-le, mag_shr}
use lib.Dec.{lit<}
use denote.Array.{each}
use denote.Shadow.{shadow}
use denote.Signed.{SInt}
use mir.Syntax.{Width, w16, w32, w64}
use mir.Facts.{to_z-of_z, sfits_widen}
use mir.Val.{Val, SFits, hbits, to_z, of_z}
use Rattle.whole.specs.Whole.{wrap, narrow}
use Rattle.whole.proofs.Range.{abs-add, abs-sub, abs-mul}
use Rattle.whole.proofs.Modulo.{in16, in32}

-- z as it is read back from a local of 32 bits, and of 16
abbrev pub R32 : ℤ → ℤ
R32 z = to_z w32 (of_z w32 z)

abbrev pub R16 : ℤ → ℤ
R16 z = to_z w16 (of_z w16 z)

pub held32 : (z : ℤ) → mag z < 2147483648 → R32 z ≡ z
held32 z h = to_z-of_z {w = w32} (record { sfits = h })

pub held16 : (z : ℤ) → mag z < 32768 → R16 z ≡ z
held16 z h = to_z-of_z {w = w16} (record { sfits = h })

-- what was wrapped or narrowed fits, so it is read back as it was written
pub back32 : (z : ℤ) → R32 (wrap z) ≡ wrap z
back32 z = to_z-of_z (in32 z)

pub back16 : (z : ℤ) → R16 (narrow z) ≡ narrow z
back16 z = to_z-of_z (in16 z)

-- ---- an element of an array, at any index, since past the end there is 0
pub elem16 : (xs : List ℤ) (us : List Val) (k : ℕ) → shadow (each ℤ (SInt w16).own_val xs us) → mag (get_or xs k (pos 0)) < 32768
elem16 [] us k p = lit< tt
elem16 (x ∷ xs) [] k p = absurd p
elem16 (x ∷ xs) (u ∷ us) zero p = p.0.1
elem16 (x ∷ xs) (u ∷ us) (suc k) p = elem16 xs us k p.1

-- ---- after a shift down
pub shr-fits : {w : Width} {z : ℤ} (m : ℕ) → SFits w z → SFits w (shr_z z m)
shr-fits {w} {z} m f = record { sfits = lt_of_le_of_lt (mag_shr z m) f.sfits }

pub shr-back : {w : Width} {z : ℤ} (m : ℕ) → SFits w z → to_z w (of_z w (shr_z (to_z w (of_z w z)) m)) ≡ shr_z z m
shr-back m f = rw (to_z-of_z f) (to_z-of_z (shr-fits m f))

pub shr-held : (z : ℤ) (m : ℕ) → mag z < 2147483648 → R32 (shr_z (R32 z) m) ≡ shr_z z m
shr-held z m h = shr-back {w = w32} {z = z} m (record { sfits = h })

-- ---- an eighth rounded toward zero fits. No function divides so: a wrong program that does is refused for what it returns, and not for this
opposite : (m : ℕ) → m < 2147483648 → SFits w32 (neg_ℤ (pos m))
opposite zero h = record { sfits = lit< tt }
opposite (suc m) h = record { sfits = omega (arith, h) }

pub eighth-fits : (z : ℤ) → mag z < 2147483648 → (0 < 8) × SFits w32 (quot_z (R32 z) (pos 8))
eighth-fits z h = rw (held32 z h) (lit< tt, by z h)
  where
    by : (z : ℤ) → mag z < 2147483648 → SFits w32 (quot_z z (pos 8))
    by (pos n) h = record { sfits = omega (arith, h) }
    by (negsuc n) h = opposite (suc n / 8) (omega (arith, h))

-- ---- after a cast from 32 bits to 64
pub wider : {z : ℤ} → SFits w32 z → SFits w64 (R32 z)
wider f = rw (to_z-of_z f) (sfits_widen tt f)

pub twice : {z : ℤ} → SFits w32 z → to_z w64 (of_z w64 (R32 z)) ≡ z
twice f = rw (to_z-of_z f) (to_z-of_z {w = w64} (sfits_widen tt f))

-- ---- by magnitude
mag-abs : (z : ℤ) → mag z ≤ nat_abs z
mag-abs (pos n) = omega arith
mag-abs (negsuc n) = omega arith

pub fits-abs : (w : Width) (z : ℤ) → nat_abs z < 2 ^ hbits w → SFits w z
fits-abs w z h = record { sfits = lt_of_le_of_lt (mag-abs z) h }

pub abs-fits : (w : Width) (z : ℤ) → SFits w z → nat_abs z ≤ 2 ^ hbits w
abs-fits w z f = nat_abs-le z f.sfits

module _ (x y : ℤ) (f : SFits w32 x) (g : SFits w32 y) where
  pub add64 : SFits w64 (x +ℤ y)
  add64 = fits-abs w64 _ (omega (arith, abs-add x y, abs-fits w32 x f, abs-fits w32 y g))

  pub sub64 : SFits w64 (x -ℤ y)
  sub64 = fits-abs w64 _ (omega (arith, abs-sub x y, abs-fits w32 x f, abs-fits w32 y g))

  pub mul64 : SFits w64 (x *ℤ y)
  mul64 = fits-abs w64 _ (omega (arith, abs-mul x y, mul-le-mul (abs-fits w32 x f) (abs-fits w32 y g)))
