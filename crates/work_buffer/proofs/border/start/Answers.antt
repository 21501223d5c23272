-- `work_buffer::border::start` meets its contract. Assumes nothing.
use mathlib.Core.Path.{refl}
use Rattle.rfc6386.specs.Walk.{row_or, start_of}
use Rattle.rfc6386.specs.Edges.{left_or}
use Rattle.work_buffer.specs.Steps.{first_row}
use Rattle.work_buffer.proofs.border.start.Goals as goal

pub returns : goal.returns
unfolding start_of left_or row_or first_row
returns c = rw (c.bordered.ensures, c.edge_or.ensures, c.first_row-row.ensures) refl
