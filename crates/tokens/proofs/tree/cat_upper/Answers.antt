use Rattle.std.proofs.Common.{arith}
use Rattle.tokens.proofs.Trees.{walk-one, walk-zero}
use Rattle.tokens.specs.Tokens.{cat_three_four, cat_five_six}
use Rattle.tokens.proofs.tree.cat_upper.Goals as goal

pub returns-then-is_one : goal.returns-then-is_one
returns-then-is_one c =
    let a = c.args in
    walk-one a.src.now a.row.now 0 8 (cat_three_four) (cat_five_six) c.args.d c.after_one.result c.cat_five_six.result c.is_one.result c.is_one.ensures 22 15 (omega arith) (omega arith)
    c.if-is_one.true c.after_one.ensures
    c.cat_five_six.ensures

pub returns-else-is_one : goal.returns-else-is_one
returns-else-is_one c =
    let a = c.args in
    walk-zero a.src.now a.row.now 0 8 (cat_three_four) (cat_five_six) c.args.d c.after_zero.result c.cat_three_four.result c.is_one.result c.is_one.ensures 22 15 (omega arith) (omega arith)
    c.if-is_one.false c.after_zero.ensures
    c.cat_three_four.ensures
