use Rattle.std.proofs.Common.{[], arith}
use Rattle.tokens.proofs.Trees.{walk-one, walk-zero, at_plain}
use Rattle.tokens.specs.Tokens.{value, three_four}
use Rattle.tokens.proofs.tree.small.Goals as goal

pub returns-then-is_one : goal.returns-then-is_one
returns-then-is_one c =
    let a = c.args in
    walk-one a.src.now a.row.now 0 4 (value 2 []) (three_four) c.args.d c.after_one.result c.three_four.result c.is_one.result c.is_one.ensures 26 15 (omega arith) (omega arith)
    c.if-is_one.true c.after_one.ensures
    c.three_four.ensures

pub returns-else-is_one : goal.returns-else-is_one
returns-else-is_one c =
    let a = c.args in
    walk-zero a.src.now a.row.now 0 4 (value 2 []) (three_four) c.args.d c.after_zero.result _ c.is_one.result c.is_one.ensures 26 19 (omega arith) (omega arith)
    c.if-is_one.false c.after_zero.ensures
    (at_plain a.src.now a.row.now 0 2 c.after_zero.result (omega arith) (omega arith))
