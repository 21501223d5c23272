-- `intra_subblock::vl` meets its contract: the line computes to what the rule has at each place. Assumes nothing.
use Rattle.lists.specs.Lists.{table, rows}
use Rattle.rfc6386.specs.Subblock.{sub_vl}
use Rattle.intra_subblock.proofs.vl.Goals as goal

pub returns : goal.returns
unfolding table rows sub_vl
returns c =
    rw (c.steps-line.ensures, c.edge_a.ensures, c.avg3.ensures, c.avg3-2.ensures) at c.drawn.ensures
