-- `mb_factors::entry` meets its contract. Assumes nothing.
use native.Mathlib.Omega.{arith}
use Rattle.quantiser.proofs.Read.{index_read}
use Rattle.mb_factors.proofs.Tables.{entry-fits, entry_read}
use Rattle.mb_factors.proofs.entry.Goals as goal

pub overflow_cast-result : goal.overflow_cast-result
overflow_cast-result c = entry-fits c.args.table.now c.requires _ c.args.index c.ranges.index c.clamp_qindex-i.ensures

pub returns : goal.returns
returns c = entry_read c.args.table.now c.requires _ c.args.index c.ranges.index c.clamp_qindex-i.ensures

pub offset_bounds-table-i : goal.offset_bounds-table-i
offset_bounds-table-i c = omega (arith, index_read _ c.args.index c.clamp_qindex-i.ensures)

pub bounds-table-i : goal.bounds-table-i
bounds-table-i c = index_read _ c.args.index c.clamp_qindex-i.ensures
