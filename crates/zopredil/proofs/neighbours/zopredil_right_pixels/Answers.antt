-- `zopredil::neighbours::zopredil_right_pixels` meets its contract. Assumes nothing.
use mathlib.Core.Path.{refl, ◌∙◌}
use borrow.Author.Tests.{eq-eqb, ne_eqb}
use Rattle.zopredil.specs.Neighbours.{right_answer}
use Rattle.zopredil.proofs.Record.{right-says}
use Rattle.zopredil.proofs.neighbours.zopredil_right_pixels.Goals as goal

pub returns-then-out-ne4 : goal.returns-then-out-ne4
unfolding right_answer
returns-then-out-ne4 c = rw (ne_eqb _ _ c.if-out-ne4.true, c.number.ensures) refl

pub returns : goal.returns
unfolding right_answer
returns c = rw (eq-eqb _ _ c.if-out-ne4.false) (c.answer.ensures ∙ right-says _ c.right_pixels.ensures)
