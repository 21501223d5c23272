-- `work_buffer::border::bordered` meets its contract. Assumes nothing.
use Rattle.rfc6386.specs.Walk.{bordered, blank}
use Rattle.work_buffer.proofs.border.bordered.Goals as goal

pub returns : goal.returns
unfolding bordered blank
returns c = cc
