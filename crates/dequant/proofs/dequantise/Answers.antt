-- `dequant::dequantise` meets its contract. Assumes nothing.
use mir.Facts.{to_z-of_z}
use Rattle.std.proofs.lemmas.Result.{err_from_is_err_and}
use Rattle.dequant.proofs.Answers.{sums-refused, length-refused, scaled}
use Rattle.dequant.proofs.dequantise.Goals as goal

pub returns : goal.returns
returns c =
    let f = c.ranges in
    let is = rw (to_z-of_z f.yac_qi, to_z-of_z f.ydc, to_z-of_z f.y2dc, to_z-of_z f.y2ac, to_z-of_z f.uvdc, to_z-of_z f.uvac) at c.in_ok-f.ensures in
    scaled _ _ _ _ _ _ _ is _ _ c.if-coeffs-ne400.false c.scale_all.ensures

pub returns-then-coeffs-ne400 : goal.returns-then-coeffs-ne400
returns-then-coeffs-ne400 c =
    let f = c.ranges in
    let is = rw (to_z-of_z f.yac_qi, to_z-of_z f.ydc, to_z-of_z f.y2dc, to_z-of_z f.y2ac, to_z-of_z f.uvdc, to_z-of_z f.uvac) at c.in_ok-f.ensures in
    length-refused _ _ _ _ _ _ _ is _ c.if-coeffs-ne400.true

pub returns-in_err-f : goal.returns-in_err-f
returns-in_err-f c =
    let f = c.ranges in
    let is = rw (to_z-of_z f.yac_qi, to_z-of_z f.ydc, to_z-of_z f.y2dc, to_z-of_z f.y2ac, to_z-of_z f.uvdc, to_z-of_z f.uvac) at c.in_err-f.ensures in
    let p = err_from_is_err_and c.from_residual.result c.from_residual.ensures.1 in
    rw (p.1, p.2) (sums-refused _ _ _ _ _ _ _ _ is)
