-- `zopredil::stills::zopredil_still` meets its contract. Assumes nothing.
use borrow.Author.Tests.{eq-eqb, ne_eqb}
use mathlib.Core.Path.{refl}
use Rattle.lists.proofs.Pairs.{pair}
use Rattle.zopredil.specs.Stills.{still_number}
use Rattle.zopredil.proofs.Index.{still-index, numbers-told, index-told}
use Rattle.zopredil.proofs.stills.zopredil_still.Goals as goal

pub returns-then-clipped-ne1 : goal.returns-then-clipped-ne1
unfolding still_number
returns-then-clipped-ne1 c = rw (ne_eqb _ _ c.if-clipped-ne1.true) (pair c.early.ensures refl)

pub answer-requires : goal.answer-requires
answer-requires c =
    let a = c.args in (
      c.if-clipped-ne1.false,
      index-told c.still-drawn.result _ _ _ _ c.still-drawn.ensures
          (still-index a.cols a.rows a.modes.now a.sub_modes.now a.coeffs.now a.right.now a.y.now a.u.now a.v.now),
    )

pub returns : goal.returns
unfolding still_number
returns c = rw (eq-eqb _ _ c.if-clipped-ne1.false) (numbers-told c.still-drawn.result _ _ _ _ c.still-drawn.ensures c.answer.ensures)
