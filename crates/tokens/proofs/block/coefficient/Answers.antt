use Rattle.std.proofs.Common.{to_z-of_z}
use mir.Syntax.{w16}
use Rattle.tokens.proofs.Trees.{walk-row}
use Rattle.tokens.proofs.Slots.{puts}
use Rattle.tokens.proofs.block.coefficient.Goals as goal

pub returns : goal.returns
returns c =
    let a = c.args in
    let s = c.signed in
    let w = rw c.row_at.ensures at c.nonzero-size.ensures in
    puts a.src.now a.probs.now a.row a.at a.i _ a.d c.nonzero-size.result c.take-minus.result _ (walk-row a.src.now a.probs.now a.row a.d c.nonzero-size.result w)
    c.take-minus.ensures (rw (to_z-of_z {w = w16} (record { sfits = s.type_inv }), s.ensures, c.zigzag.ensures.0))
