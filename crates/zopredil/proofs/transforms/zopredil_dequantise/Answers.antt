-- `zopredil::transforms::zopredil_dequantise` meets its contract. Assumes nothing.
use mathlib.Core.Path.{refl}
use borrow.Author.Tests.{eq-eqb, ne_eqb}
use mir.Facts.{to_z-of_z}
use Rattle.zopredil.specs.Transforms.{six_answer}
use Rattle.zopredil.proofs.Made.{six-beside}
use Rattle.zopredil.proofs.transforms.zopredil_dequantise.Goals as goal

pub returns-then-factors-ne6 : goal.returns-then-factors-ne6
unfolding six_answer
returns-then-factors-ne6 c = rw (ne_eqb _ _ c.if-factors-ne6.true, c.number.ensures) refl

pub returns : goal.returns
unfolding six_answer
returns c =
    let f = c.ranges in
    let e = rw (to_z-of_z f.yac_qi, to_z-of_z f.ydc, to_z-of_z f.y2dc, to_z-of_z f.y2ac, to_z-of_z f.uvdc, to_z-of_z f.uvac) at c.dequantised-made.ensures in
    rw (eq-eqb _ _ c.if-factors-ne6.false) (six-beside _ _ c.answer.ensures e)
