-- `mb_factors::plain` meets its contract. Assumes nothing.
use native.Mathlib.Omega.{arith}
use mir.Syntax.{w16}
use mir.Facts.{to_z_pos}
use Rattle.mb_factors.proofs.plain.Goals as goal

pub returns : goal.returns
returns c = to_z_pos w16 {n = c.args.entry} (omega (arith, c.requires))
