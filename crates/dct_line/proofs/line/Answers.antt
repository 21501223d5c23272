-- `dct_line::line` meets its contract. Assumes nothing.
use mir.Facts.{to_z-of_z}
use Rattle.whole.proofs.Held.{held32}
use Rattle.rfc6386.specs.Dct.{pass}
use Rattle.dct_line.specs.Lines.{odd_sum, odd_difference, line_of}
use Rattle.dct_line.proofs.line.Goals as goal

pub returns : goal.returns
unfolding line_of pass odd_sum odd_difference
returns c =
    cc (
      held32 c.wrapping_sub-2.result c.wrapping_sub-2.type_inv,
      held32 c.wrapping_sub.result c.wrapping_sub.type_inv,
      held32 c.wrapping_add-2.result c.wrapping_add-2.type_inv,
      held32 c.wrapping_add.result c.wrapping_add.type_inv,
      held32 c.odd_sum-d.result c.odd_sum-d.type_inv,
      held32 c.odd_difference-c.result c.odd_difference-c.type_inv,
      held32 c.wrapping_sub-b.result c.wrapping_sub-b.type_inv,
      held32 c.wrapping_add-a.result c.wrapping_add-a.type_inv,
      to_z-of_z c.ranges.i0,
      to_z-of_z c.ranges.i4,
      to_z-of_z c.ranges.i8,
      to_z-of_z c.ranges.i12,
    )
