-- `zopredil::transforms::zopredil_inverse_wht` meets its contract. Assumes nothing.
use mathlib.Core.Path.{refl, ap, ◌∙◌}
use borrow.Author.Tests.{eq-eqb, ne_eqb}
use lib.IntN.{pos}
use Rattle.slices.proofs.Copied.{or-zeros-fit, put_fit}
use Rattle.lists.proofs.Pairs.{pair}
use Rattle.zopredil.specs.Transforms.{wht_answer}
use Rattle.rfc6386.specs.Wht.{iwht}
use Rattle.zopredil.proofs.transforms.zopredil_inverse_wht.Goals as goal

pub returns-then-input-ne16 : goal.returns-then-input-ne16
unfolding wht_answer
returns-then-input-ne16 c = rw (ne_eqb _ _ c.if-input-ne16.true, c.number.ensures) refl

pub returns-then-out-ne16 : goal.returns-then-out-ne16
unfolding wht_answer
returns-then-out-ne16 c = rw (eq-eqb _ _ c.if-input-ne16.false, ne_eqb _ _ c.if-out-ne16.true, c.number-then-out-ne16.ensures) refl

pub returns : goal.returns
unfolding wht_answer
returns c =
    let one = c.if-input-ne16.false in
    let two = c.if-out-ne16.false in
    rw (eq-eqb _ _ one, eq-eqb _ _ two)
    (pair refl
    ((c.put.ensures ∙ put_fit 16 _ _ two) ∙ c.inverse_wht_4x4.ensures
    ∙ ap iwht (c.array.ensures ∙ or-zeros-fit (pos 0) 16 _ one)))
