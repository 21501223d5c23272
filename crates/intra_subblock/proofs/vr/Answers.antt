-- `intra_subblock::vr` meets its contract: the line computes to what the rule has at each place. Assumes nothing.
use Rattle.lists.specs.Lists.{table, rows}
use Rattle.rfc6386.specs.Subblock.{sub_vr, vr_at}
use Rattle.intra_subblock.proofs.vr.Goals as goal

pub returns : goal.returns
unfolding table rows sub_vr vr_at
returns c =
    rw (
      c.avg3p.ensures,
      c.avg3p-2.ensures,
      c.avg3p-3.ensures,
      c.avg2p.ensures,
      c.avg3p-4.ensures,
      c.avg2p-2.ensures,
      c.avg3p-5.ensures,
      c.avg2p-3.ensures,
      c.avg3p-6.ensures,
      c.avg2p-4.ensures,
    ) at c.drawn.ensures
