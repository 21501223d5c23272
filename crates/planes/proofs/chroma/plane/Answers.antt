-- `planes::chroma::plane` meets its contract. Assumes nothing.
use mathlib.Core.Path.{◌≡◌}
use native.Mathlib.Omega.{arith}
use lib.ListN.{length}
use Rattle.planes.proofs.Whole.{chroma-skipped, chroma-coded}
use Rattle.planes.proofs.chroma.plane.Goals as goal

pub returns-then-skip : goal.returns-then-skip
returns-then-skip c = rw c.if-skip.true (chroma-skipped _ _ _)

pub returns : goal.returns
returns c =
    let h : length c.args.prediction ≡ 64 = omega (arith, c.well_formed) in
    rw c.if-skip.false (chroma-coded _ _ _ _ _ _ h c.residues-o.ensures c.add_blocks.ensures c.clipped-n.ensures)
