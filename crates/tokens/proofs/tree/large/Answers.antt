use Rattle.std.proofs.Common.{arith}
use Rattle.tokens.proofs.Trees.{walk-one, walk-zero, walk-ready}
use Rattle.tokens.specs.Tokens.{small_tree, cat_tree}
use Rattle.tokens.proofs.tree.large.Goals as goal

pub returns-then-is_one : goal.returns-then-is_one
returns-then-is_one c =
    let a = c.args in
    walk-ready (omega arith) c.ready-e.ensures
    (walk-one a.src.now a.row.now 0 3 (small_tree) (cat_tree) c.ready-e.result c.after_one.result c.cats.result c.is_one.result c.is_one.ensures 33 15 (omega arith) (omega arith)
    c.if-is_one.true c.after_one.ensures
    c.cats.ensures)

pub returns-else-is_one : goal.returns-else-is_one
returns-else-is_one c =
    let a = c.args in
    walk-ready (omega arith) c.ready-e.ensures
    (walk-zero a.src.now a.row.now 0 3 (small_tree) (cat_tree) c.ready-e.result c.after_zero.result c.small.result c.is_one.result c.is_one.ensures 33 26 (omega arith) (omega arith)
    c.if-is_one.false c.after_zero.ensures
    c.small.ensures)
