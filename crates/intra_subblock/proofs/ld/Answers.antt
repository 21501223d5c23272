-- `intra_subblock::ld` meets its contract: the line computes to what the rule has at each place. Assumes nothing.
use Rattle.lists.specs.Lists.{table, rows}
use Rattle.rfc6386.specs.Subblock.{sub_ld}
use Rattle.intra_subblock.proofs.ld.Goals as goal

pub returns : goal.returns
unfolding table rows sub_ld
returns c = rw (c.slope-line.ensures, c.edge_a.ensures) at c.drawn.ensures
