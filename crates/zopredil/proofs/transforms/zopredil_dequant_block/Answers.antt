-- `zopredil::transforms::zopredil_dequant_block` meets its contract. Assumes nothing.
use mathlib.Core.Path.{refl, ◌∙◌}
use borrow.Author.Tests.{eq-eqb, ne_eqb}
use lib.IntN.{pos}
use Rattle.slices.proofs.Copied.{or-zeros-fit, put_fit}
use Rattle.lists.proofs.Pairs.{pair}
use Rattle.zopredil.specs.Transforms.{dequant_answer}
use mir.Facts.{to_z-of_z}
use Rattle.zopredil.proofs.Made.{dequant-made}
use Rattle.zopredil.proofs.transforms.zopredil_dequant_block.Goals as goal

pub returns-then-coeffs-ne16 : goal.returns-then-coeffs-ne16
unfolding dequant_answer
returns-then-coeffs-ne16 c = rw (ne_eqb _ _ c.if-coeffs-ne16.true, c.number.ensures) refl

pub returns : goal.returns
unfolding dequant_answer
returns c =
    let fit = c.if-coeffs-ne16.false in
    rw (eq-eqb _ _ fit)
    (pair refl
    ((c.put.ensures ∙ put_fit 16 _ _ fit)
    ∙ dequant-made c.dequant_block.ensures (c.array-block.ensures ∙ or-zeros-fit (pos 0) 16 _ fit)
    (to_z-of_z c.ranges.dc) (to_z-of_z c.ranges.ac)))
