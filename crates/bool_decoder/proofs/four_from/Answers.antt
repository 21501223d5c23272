use Rattle.std.proofs.Common.{sym, ◌∙◌, arith}
use Rattle.bool_decoder.proofs.Bits.{bits-four}
use Rattle.bool_decoder.proofs.four_from.Goals as goal

pub returns-then-src-at-ge4 : goal.returns-then-src-at-ge4
returns-then-src-at-ge4 c =
    c.four_at.ensures ∙ sym (bits-four c.args.src.now c.args.at (λ i. omega (arith, c.type_inv.src i)))

pub returns-else-src-at-ge4 : goal.returns-else-src-at-ge4
returns-else-src-at-ge4 c =
    c.last_four.ensures ∙ sym (bits-four c.args.src.now c.args.at (λ i. omega (arith, c.type_inv.src i)))
