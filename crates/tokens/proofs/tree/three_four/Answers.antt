use Rattle.std.proofs.Common.{◌∙◌, ap, ℕ, ◌+◌, arith}
use Rattle.tokens.proofs.Trees.{walk_pair, bit_is}
use Rattle.tokens.proofs.tree.three_four.Goals as goal

pub returns : goal.returns
returns c =
    let a = c.args in
    walk_pair a.src.now a.row.now 0 5 3 a.d c.ready.result c.take-bit.result _ c.take-bit.ensures c.ready.ensures
    (ap (λ (i : ℕ). 3 + i) (c.from.ensures ∙ bit_is c.take-bit.result.0)) (omega arith) (omega arith)
