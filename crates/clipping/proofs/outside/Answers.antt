-- `clipping::outside` meets its contract. Assumes nothing.
use mir.Facts.{to_z-of_z}
use Rattle.clipping.proofs.Counted.{below, by-tests}
use Rattle.clipping.proofs.outside.Goals as goal
use Rattle.clipping.proofs.outside.Goals.{then-below, else-below}

pub returns : goal.returns
returns c =
    let e = to_z-of_z c.ranges.v in
    elim c.if-below.branch [
      | then-below w ↦ rw (c.from.ensures, w.from-is, w.if-below.true) (below c.args.v (rw e at w.if-below.true))
      | else-below w ↦ rw (c.from.ensures, w.from-is, e) (by-tests c.args.v (rw e at w.if-below.false))
    ]
