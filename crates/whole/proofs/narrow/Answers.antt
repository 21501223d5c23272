-- `whole::narrow` meets its contract. Assumes nothing.
use mathlib.Core.Path.{◌≡◌, sym, ap, subst, ◌∙◌}
use Prim.Native.Nat.{ℕ, ◌*◌, ◌%◌}
use native.Mathlib.Omega.{arith}
use lib.IntN.{ℤ, pos, negsuc}
use lib.Signed.{shr_z}
use mir.Syntax.{w16, w32}
use mir.Val.{SFits, to_z, of_z}
use mir.Facts.{to_z-of_z, sfits_to_z, sfits_widen}
use Rattle.whole.specs.Whole.{narrow}
use Rattle.whole.proofs.Modulo.{shifted16, in16}
use Rattle.whole.proofs.Held.{R16, R32}
use Rattle.whole.proofs.narrow.Goals as goal

-- what the two shifts leave
shifted : (z : ℤ) → SFits w32 z → R32 (shr_z (to_z w32 ((of_z w32 z * 65536) % 4294967296)) 65536) ≡ narrow z
shifted z f = rw (shifted16 z f) (to_z-of_z {w = w32} (sfits_widen tt (in16 z)))

-- what is shifted down by 16 or more is of 16 bits
abbrev parts : ℕ
parts = 65536

short : (z : ℤ) → SFits w32 z → SFits w16 (R32 (shr_z z parts))
short z f = subst (SFits w16) (sym (to_z-of_z {w = w32} (sfits_widen tt (by z f)))) (by z f)
  where
    by : (z : ℤ) → SFits w32 z → SFits w16 (shr_z z parts)
    by (pos n) f = record { sfits = omega arith }
    by (negsuc n) f = record { sfits = omega arith }

pub overflow_cast-result : goal.overflow_cast-result
overflow_cast-result c = short (to_z w32 ((of_z w32 c.args.x * parts) % 4294967296)) (sfits_to_z {n = (of_z w32 c.args.x * parts) % 4294967296} (record { fits = omega arith }))

pub returns : goal.returns
returns c = ap R16 (shifted c.args.x c.ranges.x) ∙ to_z-of_z {w = w16} (in16 c.args.x)
