-- `zopredil::transforms::zopredil_inverse_dct_add_into` meets its contract. Assumes nothing.
use mathlib.Core.Path.{refl, ◌∙◌}
use borrow.Author.Tests.{eq-eqb, ne_eqb}
use lib.IntN.{pos}
use Rattle.slices.proofs.Copied.{or-zeros-fit}
use Rattle.zopredil.specs.Transforms.{add_into_answer}
use Rattle.zopredil.proofs.Made.{added-beside}
use Rattle.zopredil.proofs.transforms.zopredil_inverse_dct_add_into.Goals as goal

pub returns-then-input-ne16 : goal.returns-then-input-ne16
unfolding add_into_answer
returns-then-input-ne16 c = rw (ne_eqb _ _ c.if-input-ne16.true, c.number.ensures) refl

pub returns-then-clipped-ne1 : goal.returns-then-clipped-ne1
unfolding add_into_answer
returns-then-clipped-ne1 c = rw (eq-eqb _ _ c.if-input-ne16.false, ne_eqb _ _ c.if-clipped-ne1.true, c.number-then-clipped-ne1.ensures) refl

pub returns : goal.returns
unfolding add_into_answer
returns c =
    let a = c.args in
    let block = c.array.ensures ∙ or-zeros-fit (pos 0) 16 _ c.if-input-ne16.false in
    let made = rw block at c.added-count.ensures in
    rw (eq-eqb _ _ c.if-input-ne16.false, eq-eqb _ _ c.if-clipped-ne1.false)
    (added-beside _ a.input.now a.stride a.sub_row a.sub_col a.plane.now c.answer.ensures made.0 made.1)
