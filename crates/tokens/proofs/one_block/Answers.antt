use Rattle.tokens.proofs.Blocks.{some_read, none_read}
use Rattle.tokens.proofs.one_block.Goals as goal

pub returns-then-is_one : goal.returns-then-is_one
returns-then-is_one c = some_read c.args.src.now c.args.probs.now c.args.zeros c.args.y2 c.args.n _ _ _ c.above_slot-a.result c.left_slot-l.result c.above_slot-a.ensures.0 c.left_slot-l.ensures.0 c.base_of-base.result c.first_of-first.result c.band.result c.count_row.result c.base_of-base.ensures.0 c.first_of-first.ensures.0 c.first_of-first.ensures.1 c.band.ensures c.count_row.ensures.0 c.args.d c.ready-e.result c.ready-e.ensures c.is_one.result c.is_one.ensures c.after_one.result c.if-is_one.true c.after_one.ensures _ c.decode_block-some.result c.decode_block-some.ensures

pub returns-else-is_one : goal.returns-else-is_one
returns-else-is_one c = none_read c.args.src.now c.args.probs.now c.args.zeros c.args.y2 c.args.n _ _ _ c.above_slot-a.result c.left_slot-l.result c.above_slot-a.ensures.0 c.left_slot-l.ensures.0 c.base_of-base.result c.first_of-first.result c.band.result c.count_row.result c.base_of-base.ensures.0 c.first_of-first.ensures.0 c.first_of-first.ensures.1 c.band.ensures c.count_row.ensures.0 c.args.d c.ready-e.result c.ready-e.ensures c.is_one.result c.is_one.ensures c.after_zero.result c.if-is_one.false c.after_zero.ensures
