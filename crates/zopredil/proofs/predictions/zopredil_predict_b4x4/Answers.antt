-- `zopredil::predictions::zopredil_predict_b4x4` meets its contract. Assumes nothing.
use mathlib.Core.Path.{refl, ◌∙◌}
use borrow.Author.Tests.{eq-eqb, ne_eqb}
use Rattle.zopredil.specs.Predictions.{sub_block_answer}
use Rattle.zopredil.proofs.predictions.zopredil_predict_b4x4.Goals as goal

pub returns-then-above-ne8 : goal.returns-then-above-ne8
unfolding sub_block_answer
returns-then-above-ne8 c = rw (ne_eqb _ _ c.if-above-ne8.true, c.number.ensures) refl

pub returns-then-left-ne4 : goal.returns-then-left-ne4
unfolding sub_block_answer
returns-then-left-ne4 c = rw (eq-eqb _ _ c.if-above-ne8.false, ne_eqb _ _ c.if-left-ne4.true, c.number-then-left-ne4.ensures) refl

pub returns-then-out-ne16 : goal.returns-then-out-ne16
unfolding sub_block_answer
returns-then-out-ne16 c =
    rw (eq-eqb _ _ c.if-above-ne8.false, eq-eqb _ _ c.if-left-ne4.false, ne_eqb _ _ c.if-out-ne16.true, c.number-then-out-ne16.ensures) refl

pub returns : goal.returns
unfolding sub_block_answer
returns c =
    rw (eq-eqb _ _ c.if-above-ne8.false, eq-eqb _ _ c.if-left-ne4.false, eq-eqb _ _ c.if-out-ne16.false) (c.answer.ensures ∙ c.sub_block.ensures)
