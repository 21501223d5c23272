-- `intra_subblock::he` meets its contract: the line computes to what the rule has at each place. Assumes nothing.
use Rattle.lists.specs.Lists.{table, rows}
use Rattle.rfc6386.specs.Subblock.{sub_he}
use Rattle.intra_subblock.proofs.he.Goals as goal

pub returns : goal.returns
unfolding table rows sub_he
returns c = rw c.slope-line.ensures at c.drawn.ensures
