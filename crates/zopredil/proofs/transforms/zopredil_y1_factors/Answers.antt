-- `zopredil::transforms::zopredil_y1_factors` meets its contract. Assumes nothing.
use mathlib.Core.Path.{refl, ◌∙◌}
use borrow.Author.Tests.{eq-eqb, ne_eqb}
use mir.Facts.{to_z-of_z}
use Rattle.zopredil.specs.Transforms.{factors_answer}
use Rattle.zopredil.proofs.transforms.zopredil_y1_factors.Goals as goal

pub returns-then-out-ne2 : goal.returns-then-out-ne2
unfolding factors_answer
returns-then-out-ne2 c = rw (ne_eqb _ _ c.if-out-ne2.true, c.number.ensures) refl

pub returns : goal.returns
unfolding factors_answer
returns c =
    let e = rw (to_z-of_z c.ranges.yac_qi, to_z-of_z c.ranges.ydc_delta) at c.factors.ensures in
    rw (eq-eqb _ _ c.if-out-ne2.false) (c.answer.ensures ∙ e)
