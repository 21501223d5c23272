-- `zopredil::predictions::zopredil_predict_y16x16` meets its contract. Assumes nothing.
use mathlib.Core.Path.{refl, sym, ◌∙◌}
use native.Mathlib.Omega.{arith}
use Rattle.drawing.proofs.Bytes.{y-none, y-one}
use Rattle.zopredil.specs.Predictions.{luma_answer, luma_drawn}
use Rattle.zopredil.proofs.Predicted.{fit-block, luma-says}
use Rattle.zopredil.proofs.predictions.zopredil_predict_y16x16.Goals as goal

pub returns-then-not-lengths_fit : goal.returns-then-not-lengths_fit
unfolding luma_answer
returns-then-not-lengths_fit c = rw (sym c.lengths_fit.ensures ∙ c.if-not-lengths_fit.true, c.number.ensures) refl

pub answer-requires : goal.answer-requires
answer-requires c = (omega arith, fit-block 16 256 _ _ _ (sym c.lengths_fit.ensures ∙ c.if-not-lengths_fit.false))

pub answer-requires-in-Err : goal.answer-requires-in-Err
answer-requires-in-Err c = (omega arith, fit-block 16 256 _ _ _ (sym c.lengths_fit.ensures ∙ c.if-not-lengths_fit.false))

pub returns-in-Ok : goal.returns-in-Ok
unfolding luma_answer luma_drawn
returns-in-Ok c =
    let k = y-one _ _ (rw c.in-Ok.is at c.try_from.ensures) in
    rw (sym c.lengths_fit.ensures ∙ c.if-not-lengths_fit.false, k.0, ← k.1, ← c.array.ensures, ← c.array-in-Ok.ensures)
    (c.answer.ensures ∙ luma-says _ c.predict_y16x16-made.ensures)

pub returns-in-Err : goal.returns-in-Err
unfolding luma_answer luma_drawn
returns-in-Err c =
    let k = y-none _ _ (rw c.in-Err.is at c.try_from.ensures) in
    let e = rw k.0 at c.answer-in-Err.ensures in
    rw (sym c.lengths_fit.ensures ∙ c.if-not-lengths_fit.false, k.1) e
