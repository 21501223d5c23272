-- Modulo 2^32 and 2^16, read as signed: the range, what is in the range stays, and what a shift up and a shift down leaves.
-- Assumes nothing.
use Prim.Native.Nat.{ℕ, suc, ◌*◌, ◌-◌, ◌%◌, ◌<◌}
use native.Mathlib.Omega.{arith}
use native.Mathlib.Decide.{dec_lt}
use mathlib.Core.Path.{◌≡◌, refl, ap, ◌∙◌}
use lib.IntN.{ℤ, pos, negsuc}
use lib.Signed.{shr_z}
use borrow.Author.Tests.{lt-ltb, le-ltb}
use mir.Syntax.{w16, w32, w64}
use mir.Val.{SFits, to_z, of_z}
use Rattle.whole.specs.Whole.{mod_z, signed, wrap, narrow}
use Rattle.whole.proofs.Range.{Signed, signed-sfits}

-- ---- the low bits of a number, by a shift up and a shift down
low16-by : (n : ℕ) → Dec (n % 65536 < 32768) → shr_z (to_z w32 ((n * 65536) % 4294967296)) 65536 ≡ signed 32768 (n % 65536)
low16-by n (yes h) =
    rw (lt-ltb (n % 65536) 32768 h, lt-ltb ((n * 65536) % 4294967296) 2147483648 (omega arith)) (ap pos (omega arith))
low16-by n (no h) =
    rw (le-ltb (n % 65536) 32768 (omega arith), le-ltb ((n * 65536) % 4294967296) 2147483648 (omega arith)) (ap negsuc (omega arith))

low32-by : (n : ℕ) → Dec (n % 4294967296 < 2147483648) → shr_z (to_z w64 ((n * 4294967296) % 18446744073709551616)) 4294967296 ≡ signed 2147483648 (n % 4294967296)
low32-by n (yes h) =
    rw (lt-ltb (n % 4294967296) 2147483648 h, lt-ltb ((n * 4294967296) % 18446744073709551616) 9223372036854775808 (omega arith)) (ap pos (omega arith))
low32-by n (no h) =
    rw (le-ltb (n % 4294967296) 2147483648 (omega arith), le-ltb ((n * 4294967296) % 18446744073709551616) 9223372036854775808 (omega arith)) (ap negsuc (omega arith))

bits16 : (z : ℤ) → SFits w32 z → of_z w32 z % 65536 ≡ mod_z z 65536
bits16 (pos n) f = refl
bits16 (negsuc n) f = omega arith

bits32 : (z : ℤ) → SFits w64 z → of_z w64 z % 4294967296 ≡ mod_z z 4294967296
bits32 (pos n) f = refl
bits32 (negsuc n) f = omega arith

pub shifted16 : (z : ℤ) → SFits w32 z → shr_z (to_z w32 ((of_z w32 z * 65536) % 4294967296)) 65536 ≡ narrow z
unfolding narrow
shifted16 z f = low16-by (of_z w32 z) (dec_lt _ _) ∙ ap (signed 32768) (bits16 z f)

pub shifted32 : (z : ℤ) → SFits w64 z → shr_z (to_z w64 ((of_z w64 z * 4294967296) % 18446744073709551616)) 4294967296 ≡ wrap z
unfolding wrap
shifted32 z f = low32-by (of_z w64 z) (dec_lt _ _) ∙ ap (signed 2147483648) (bits32 z f)

-- ---- the range
pub in16 : (z : ℤ) → SFits w16 (narrow z)
unfolding narrow
in16 z = by (mod_z z 65536) (below z) (dec_lt _ _)
  where
    below : (z : ℤ) → mod_z z 65536 < 65536
    below (pos n) = omega arith
    below (negsuc n) = omega arith

    by : (n : ℕ) → n < 65536 → Dec (n < 32768) → SFits w16 (signed 32768 n)
    by n b (yes h) = rw (lt-ltb n 32768 h) (record { sfits = h })
    by n b (no h) = rw (le-ltb n 32768 (omega arith)) (record { sfits = omega arith })

pub in32 : (z : ℤ) → SFits w32 (wrap z)
unfolding wrap
in32 z = by (mod_z z 4294967296) (below z) (dec_lt _ _)
  where
    below : (z : ℤ) → mod_z z 4294967296 < 4294967296
    below (pos n) = omega arith
    below (negsuc n) = omega arith

    by : (n : ℕ) → n < 4294967296 → Dec (n < 2147483648) → SFits w32 (signed 2147483648 n)
    by n b (yes h) = rw (lt-ltb n 2147483648 h) (record { sfits = h })
    by n b (no h) = rw (le-ltb n 2147483648 (omega arith)) (record { sfits = omega arith })

-- ---- what is in the range stays as it is
pub wrap-held : (z : ℤ) → SFits w32 z → wrap z ≡ z
unfolding wrap
wrap-held (pos n) f = rw (lt-ltb (n % 4294967296) 2147483648 (omega arith)) (ap pos (omega arith))
wrap-held (negsuc n) f = rw (le-ltb (4294967296 - suc (n % 4294967296)) 2147483648 (omega arith)) (ap negsuc (omega arith))

pub narrow-held : (z : ℤ) → SFits w16 z → narrow z ≡ z
unfolding narrow
narrow-held (pos n) f = rw (lt-ltb (n % 65536) 32768 (omega arith)) (ap pos (omega arith))
narrow-held (negsuc n) f = rw (le-ltb (65536 - suc (n % 65536)) 32768 (omega arith)) (ap negsuc (omega arith))

pub wrap-is : (z : ℤ) → Signed 2147483648 z → wrap z ≡ z
wrap-is z s = wrap-held z (signed-sfits w32 z s)

pub narrow-is : (z : ℤ) → Signed 32768 z → narrow z ≡ z
narrow-is z s = narrow-held z (signed-sfits w16 z s)
