-- `zopredil::transforms::dequantised` meets its contract. Assumes nothing.
use mathlib.Core.Path.{ap, ◌∙◌}
use mathlib.Core.List.{List}
use lib.IntN.{ℤ}
use mir.Facts.{to_z-of_z}
use Rattle.std.proofs.lemmas.Result.{err_from_is_err_and}
use Rattle.mb_factors.specs.Factors.{FactorsAnswer, no_factors}
use borrow.Author.Rules.{rules}
use Rattle.zopredil.specs.Transforms.{six_made, factor_list}
use Rattle.zopredil.proofs.Made.{six-held}
use Rattle.zopredil.proofs.transforms.dequantised.Goals as goal

pub returns-in_err-f : goal.returns-in_err-f
unfolding factor_list no_factors
returns-in_err-f c =
    let f = c.ranges in
    let p = err_from_is_err_and c.from_residual.result c.from_residual.ensures.1 in
    let e = rw (to_z-of_z f.yac_qi, to_z-of_z f.ydc, to_z-of_z f.y2dc, to_z-of_z f.y2ac, to_z-of_z f.uvdc, to_z-of_z f.uvac) at c.in_err-f.ensures in
    rw (p.1, p.2) (ap (λ (a : FactorsAnswer × List ℤ). six_made a) e)

pub returns : goal.returns
unfolding factor_list
returns c =
    let f = c.ranges in
    let e = rw (to_z-of_z f.yac_qi, to_z-of_z f.ydc, to_z-of_z f.y2dc, to_z-of_z f.y2ac, to_z-of_z f.uvdc, to_z-of_z f.uvac) at c.in_ok-f.ensures in
    let s = c.in_ok-f.f in
    six-held 0 c.dequantise.new.coeffs s.y1_dc s.y1_ac s.y2_dc s.y2_ac s.uv_dc s.uv_ac
    (search rules) (search rules) (search rules) (search rules) (search rules) (search rules)
    ∙ ap (λ (a : FactorsAnswer × List ℤ). six_made a) e
