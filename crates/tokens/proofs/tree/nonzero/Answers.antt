use Rattle.std.proofs.Common.{[], arith}
use Rattle.tokens.proofs.Trees.{walk-one, walk-zero, at_plain}
use Rattle.tokens.specs.Tokens.{value, large_tree}
use Rattle.tokens.proofs.tree.nonzero.Goals as goal

pub returns-then-is_one : goal.returns-then-is_one
returns-then-is_one c =
    let a = c.args in
    walk-one a.src.now a.row.now 0 2 (value 1 []) (large_tree) c.args.d c.after_one.result c.large.result c.is_one.result c.is_one.ensures 26 8 (omega arith) (omega arith)
    c.if-is_one.true c.after_one.ensures
    c.large.ensures

pub returns-else-is_one : goal.returns-else-is_one
returns-else-is_one c =
    let a = c.args in
    walk-zero a.src.now a.row.now 0 2 (value 1 []) (large_tree) c.args.d c.after_zero.result _ c.is_one.result c.is_one.ensures 26 19 (omega arith) (omega arith)
    c.if-is_one.false c.after_zero.ensures
    (at_plain a.src.now a.row.now 0 1 c.after_zero.result (omega arith) (omega arith))
