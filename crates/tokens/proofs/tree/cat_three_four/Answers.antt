use Rattle.std.proofs.Common.{[], ◌∷◌, arith}
use Rattle.tokens.proofs.Trees.{walk-one, walk-zero, leaf-same}
use Rattle.tokens.specs.Tokens.{value}
use Rattle.tokens.proofs.tree.cat_three_four.Goals as goal

pub returns-then-is_one : goal.returns-then-is_one
returns-then-is_one c =
    let a = c.args in
    walk-one a.src.now a.row.now 0 9 (value 11 (173 ∷ 148 ∷ 140 ∷ [])) (value 19 (176 ∷ 155 ∷ 140 ∷ 135 ∷ [])) c.args.d c.after_one.result c.category.result c.is_one.result c.is_one.ensures 15 8 (omega arith) (omega arith)
    c.if-is_one.true c.after_one.ensures
    (leaf-same a.src.now a.row.now 0 19 (176 ∷ 155 ∷ 140 ∷ 135 ∷ []) 8 c.after_one.result c.category.result c.category.ensures)

pub returns-else-is_one : goal.returns-else-is_one
returns-else-is_one c =
    let a = c.args in
    walk-zero a.src.now a.row.now 0 9 (value 11 (173 ∷ 148 ∷ 140 ∷ [])) (value 19 (176 ∷ 155 ∷ 140 ∷ 135 ∷ [])) c.args.d c.after_zero.result c.category-else-is_one.result c.is_one.result c.is_one.ensures 15 8 (omega arith) (omega arith)
    c.if-is_one.false c.after_zero.ensures
    (leaf-same a.src.now a.row.now 0 11 (173 ∷ 148 ∷ 140 ∷ []) 8 c.after_zero.result c.category-else-is_one.result c.category-else-is_one.ensures)
