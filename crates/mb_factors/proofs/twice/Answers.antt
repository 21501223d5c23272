-- `mb_factors::twice` meets its contract. Assumes nothing.
use Prim.Native.Nat.{◌*◌}
use native.Mathlib.Omega.{arith}
use mir.Syntax.{w16}
use mir.Facts.{to_z_pos}
use Rattle.mb_factors.proofs.twice.Goals as goal

pub returns : goal.returns
returns c = to_z_pos w16 {n = c.args.entry * 2} (omega (arith, c.requires))
