-- `zopredil::neighbours::zopredil_gather` meets its contract: the record is the bytes of what gathering gives. Assumes nothing.
use mathlib.Core.Path.{refl, ◌∙◌}
use borrow.Author.Tests.{eq-eqb, ne_eqb}
use Rattle.slices.proofs.Copied.{or-zeros-fit}
use Rattle.zopredil.specs.Neighbours.{gather_answer}
use Rattle.zopredil.proofs.neighbours.zopredil_gather.Goals as goal

pub returns-then-record-ne81 : goal.returns-then-record-ne81
unfolding gather_answer
returns-then-record-ne81 c = rw (ne_eqb _ _ c.if-record-ne81.true, c.number.ensures) refl

pub returns-then-right-ne4 : goal.returns-then-right-ne4
unfolding gather_answer
returns-then-right-ne4 c = rw (eq-eqb _ _ c.if-record-ne81.false, ne_eqb _ _ c.if-right-ne4.true, c.number-then-right-ne4.ensures) refl

pub returns : goal.returns
unfolding gather_answer
returns c =
    let right = c.array.ensures ∙ or-zeros-fit 0 4 _ c.if-right-ne4.false in
    let e = rw right at c.gathered-bytes.ensures in
    rw (eq-eqb _ _ c.if-record-ne81.false, eq-eqb _ _ c.if-right-ne4.false) (c.answer.ensures ∙ e)
