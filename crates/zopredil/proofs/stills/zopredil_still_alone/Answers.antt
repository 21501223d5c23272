-- `zopredil::stills::zopredil_still_alone` meets its contract. Assumes nothing.
use borrow.Author.Tests.{eq-eqb, ne_eqb}
use mathlib.Core.Path.{refl}
use Rattle.lists.proofs.Pairs.{pair}
use Rattle.zopredil.specs.Stills.{alone_number}
use Rattle.zopredil.proofs.Index.{alone-index, numbers-told, index-told}
use Rattle.zopredil.proofs.stills.zopredil_still_alone.Goals as goal

pub returns-then-clipped-ne1 : goal.returns-then-clipped-ne1
unfolding alone_number
returns-then-clipped-ne1 c = rw (ne_eqb _ _ c.if-clipped-ne1.true) (pair c.early.ensures refl)

pub answer-requires : goal.answer-requires
answer-requires c =
    let a = c.args in (
      c.if-clipped-ne1.false,
      index-told c.still_alone-drawn.result _ _ _ _ c.still_alone-drawn.ensures
          (alone-index a.cols a.rows a.modes.now a.sub_modes.now a.coeffs.now a.y.now a.u.now a.v.now),
    )

pub returns : goal.returns
unfolding alone_number
returns c = rw (eq-eqb _ _ c.if-clipped-ne1.false) (numbers-told c.still_alone-drawn.result _ _ _ _ c.still_alone-drawn.ensures c.answer.ensures)
