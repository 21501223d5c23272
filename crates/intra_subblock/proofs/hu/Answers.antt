-- `intra_subblock::hu` meets its contract: the line computes to what the rule has at each place. Assumes nothing.
use Rattle.lists.specs.Lists.{table, rows}
use Rattle.rfc6386.specs.Subblock.{sub_hu, hu_at}
use Rattle.intra_subblock.proofs.hu.Goals as goal

pub returns : goal.returns
unfolding table rows sub_hu hu_at
returns c =
    rw (
      c.avg2p.ensures,
      c.avg3p.ensures,
      c.avg2p-2.ensures,
      c.avg3p-2.ensures,
      c.avg2p-3.ensures,
      c.avg3p-3.ensures,
    ) at c.drawn.ensures
