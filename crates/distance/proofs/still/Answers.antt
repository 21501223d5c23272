-- `distance::still` meets its contract. Assumes nothing.
use mathlib.Core.Path.{◌∙◌}
use native.Mathlib.Omega.{arith}
use Rattle.distance.proofs.Planes.{part-distance}
use Rattle.distance.proofs.still.Goals as goal

pub returns : goal.returns
returns c =
    let a = c.args in
    let p = c.requires in
    c.plane_distance.ensures
    ∙ part-distance a.drawn.now a.measured.now a.at _ (omega (arith, p.forward, p.in-drawn)) (omega (arith, p.forward, p.in-measured)) p.whole p.small
