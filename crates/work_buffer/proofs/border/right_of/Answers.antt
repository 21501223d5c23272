-- `work_buffer::border::right_of` meets its contract. Assumes nothing.
use mathlib.Core.Path.{refl}
use Rattle.lists.specs.Lists.{table, part}
use Rattle.work_buffer.proofs.border.right_of.Goals as goal

pub returns : goal.returns
unfolding part table
returns c = refl
