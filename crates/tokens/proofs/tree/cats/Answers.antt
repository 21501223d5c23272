use Rattle.std.proofs.Common.{arith}
use Rattle.tokens.proofs.Trees.{walk-one, walk-zero, walk-ready}
use Rattle.tokens.specs.Tokens.{cat_one_two, cat_upper}
use Rattle.tokens.proofs.tree.cats.Goals as goal

pub returns-then-is_one : goal.returns-then-is_one
returns-then-is_one c =
    let a = c.args in
    walk-one a.src.now a.row.now 0 6 (cat_one_two) (cat_upper) c.args.d c.after_one.result c.cat_upper.result c.is_one.result c.is_one.ensures 15 8 (omega arith) (omega arith)
    c.if-is_one.true c.after_one.ensures
    (walk-ready (omega arith) c.ready.ensures c.cat_upper.ensures)

pub returns-else-is_one : goal.returns-else-is_one
returns-else-is_one c =
    let a = c.args in
    walk-zero a.src.now a.row.now 0 6 (cat_one_two) (cat_upper) c.args.d c.after_zero.result c.cat_one_two.result c.is_one.result c.is_one.ensures 15 8 (omega arith) (omega arith)
    c.if-is_one.false c.after_zero.ensures
    (walk-ready (omega arith) c.ready-else-is_one.ensures c.cat_one_two.ensures)
