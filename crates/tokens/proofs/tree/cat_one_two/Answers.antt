use Rattle.std.proofs.Common.{◌≡◌, ◌∙◌, ap, ℕ, ◌+◌, ◌*◌, [], ◌∷◌, arith}
use Rattle.bool_decoder.specs.BoolCoder.{bit_of}
use Rattle.tokens.specs.Tokens.{value}
use Rattle.tokens.proofs.Trees.{walk-one, walk-zero, walk-extra, walk-extras, bit_is}
use Rattle.tokens.proofs.tree.cat_one_two.Goals as goal

pub returns-then-is_one : goal.returns-then-is_one
returns-then-is_one c =
    let a = c.args in
    let high = c.take-high in
    let low = c.take-low in
    let e : 7 + 2 * c.from.result + c.from-then-is_one.result ≡ 7 + 2 * bit_of high.result.0 + bit_of low.result.0
    = omega (arith, c.from.ensures, c.from-then-is_one.ensures, bit_is high.result.0, bit_is low.result.0) in
    walk-one a.src.now a.row.now 0 7 (value 5 (159 ∷ [])) (value 7 (165 ∷ 145 ∷ [])) a.d c.after_one.result _ c.is_one.result c.is_one.ensures
    29 22 (omega arith) (omega arith) c.if-is_one.true c.after_one.ensures
    (walk-extras a.src.now a.row.now 0 7 165 145 c.after_one.result c.ready.result high.result low.result _ high.ensures low.ensures
    c.ready.ensures e (omega arith) (omega arith))

pub returns-else-is_one : goal.returns-else-is_one
returns-else-is_one c =
    let a = c.args in
    let low = c.take-low-else-is_one in
    walk-zero a.src.now a.row.now 0 7 (value 5 (159 ∷ [])) (value 7 (165 ∷ 145 ∷ [])) a.d c.after_zero.result _ c.is_one.result c.is_one.ensures
    29 15 (omega arith) (omega arith) c.if-is_one.false c.after_zero.ensures
    (walk-extra a.src.now a.row.now 0 5 159 c.after_zero.result c.ready-else-is_one.result low.result _ low.ensures c.ready-else-is_one.ensures
    (ap (λ (i : ℕ). 5 + i) (c.from-else-is_one.ensures ∙ bit_is low.result.0)) (omega arith) (omega arith))
