-- `intra_subblock::hd` meets its contract: the line computes to what the rule has at each place. Assumes nothing.
use Rattle.lists.specs.Lists.{table, rows}
use Rattle.rfc6386.specs.Subblock.{sub_hd, hd_at}
use Rattle.intra_subblock.proofs.hd.Goals as goal

pub returns : goal.returns
unfolding table rows sub_hd hd_at
returns c =
    rw (c.steps-line.ensures, c.avg3p.ensures, c.avg3p-2.ensures) at c.drawn.ensures
