-- `intra_subblock::ve` meets its contract: the line computes to what the rule has at each place. Assumes nothing.
use Rattle.lists.specs.Lists.{table, rows}
use Rattle.rfc6386.specs.Subblock.{sub_ve}
use Rattle.intra_subblock.proofs.ve.Goals as goal

pub returns : goal.returns
unfolding table rows sub_ve
returns c = rw c.slope-line.ensures at c.drawn.ensures
