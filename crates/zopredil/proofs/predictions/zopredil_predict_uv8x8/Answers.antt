-- `zopredil::predictions::zopredil_predict_uv8x8` meets its contract. Assumes nothing.
use mathlib.Core.Path.{refl, sym, ◌∙◌}
use native.Mathlib.Omega.{arith}
use Rattle.zopredil.specs.Predictions.{chroma_answer}
use Rattle.zopredil.proofs.Predicted.{fit-block}
use Rattle.zopredil.proofs.predictions.zopredil_predict_uv8x8.Goals as goal

pub returns-then-not-lengths_fit : goal.returns-then-not-lengths_fit
unfolding chroma_answer
returns-then-not-lengths_fit c = rw (sym c.lengths_fit.ensures ∙ c.if-not-lengths_fit.true, c.number.ensures) refl

pub answer-requires : goal.answer-requires
answer-requires c = (omega arith, fit-block 8 64 _ _ _ (sym c.lengths_fit.ensures ∙ c.if-not-lengths_fit.false))

pub returns : goal.returns
unfolding chroma_answer
returns c = rw (sym c.lengths_fit.ensures ∙ c.if-not-lengths_fit.false) (c.answer.ensures ∙ c.chroma.ensures)
