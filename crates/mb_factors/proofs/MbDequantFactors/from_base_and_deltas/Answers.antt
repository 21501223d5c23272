-- `mb_factors::MbDequantFactors::from_base_and_deltas` meets its contract. Assumes nothing.
use mathlib.Core.Path.{◌≡◌}
use borrow.Author.Rules.{rules}
use mir.Facts.{to_z-of_z}
use Rattle.std.proofs.lemmas.Result.{err_from_is_err_and}
use Rattle.whole.proofs.Held.{R32}
use Rattle.mb_factors.proofs.Sums.{given, y1-dc-refused, y2-dc-refused, y2-ac-refused, uv-dc-refused, uv-ac-refused}
use Rattle.mb_factors.proofs.MbDequantFactors.from_base_and_deltas.Goals as goal

pub returns : goal.returns
returns c =
    let f = c.ranges in
    let y1-dc : R32 c.in_ok-y1_dc.y1_dc ≡ c.in_ok-y1_dc.y1_dc = search rules in
    let y2-dc : R32 c.in_ok-y2_dc.y2_dc ≡ c.in_ok-y2_dc.y2_dc = search rules in
    let y2-ac : R32 c.in_ok-y2_ac.y2_ac ≡ c.in_ok-y2_ac.y2_ac = search rules in
    let uv-dc : R32 c.in_ok-uv_dc.uv_dc ≡ c.in_ok-uv_dc.uv_dc = search rules in
    let uv-ac : R32 c.in_ok-uv_ac.uv_ac ≡ c.in_ok-uv_ac.uv_ac = search rules in
    given _ _ _ _ _ _ _ _ _ _ _ _
    (rw (to_z-of_z f.yac_qi, to_z-of_z f.ydc) at c.in_ok-y1_dc.ensures)
    (rw (to_z-of_z f.yac_qi, to_z-of_z f.y2dc) at c.in_ok-y2_dc.ensures)
    (rw (to_z-of_z f.yac_qi, to_z-of_z f.y2ac) at c.in_ok-y2_ac.ensures)
    (rw (to_z-of_z f.yac_qi, to_z-of_z f.uvdc) at c.in_ok-uv_dc.ensures)
    (rw (to_z-of_z f.yac_qi, to_z-of_z f.uvac) at c.in_ok-uv_ac.ensures)
    (rw (to_z-of_z f.yac_qi, y1-dc, y2-dc, y2-ac, uv-dc, uv-ac) at c.at.ensures)

pub returns-in_err-y1_dc : goal.returns-in_err-y1_dc
returns-in_err-y1_dc c =
    let p = err_from_is_err_and c.from_residual.result c.from_residual.ensures.1 in
    rw (p.1, p.2) (y1-dc-refused _ _ _ _ _ _ _ (rw (to_z-of_z c.ranges.yac_qi, to_z-of_z c.ranges.ydc) at c.in_err-y1_dc.ensures))

pub returns-in_err-y2_dc : goal.returns-in_err-y2_dc
returns-in_err-y2_dc c =
    let p = err_from_is_err_and c.from_residual-in_err-y2_dc.result c.from_residual-in_err-y2_dc.ensures.1 in
    rw (p.1, p.2) (y2-dc-refused _ _ _ _ _ _ _ (rw (to_z-of_z c.ranges.yac_qi, to_z-of_z c.ranges.y2dc) at c.in_err-y2_dc.ensures))

pub returns-in_err-y2_ac : goal.returns-in_err-y2_ac
returns-in_err-y2_ac c =
    let p = err_from_is_err_and c.from_residual-in_err-y2_ac.result c.from_residual-in_err-y2_ac.ensures.1 in
    rw (p.1, p.2) (y2-ac-refused _ _ _ _ _ _ _ (rw (to_z-of_z c.ranges.yac_qi, to_z-of_z c.ranges.y2ac) at c.in_err-y2_ac.ensures))

pub returns-in_err-uv_dc : goal.returns-in_err-uv_dc
returns-in_err-uv_dc c =
    let p = err_from_is_err_and c.from_residual-in_err-uv_dc.result c.from_residual-in_err-uv_dc.ensures.1 in
    rw (p.1, p.2) (uv-dc-refused _ _ _ _ _ _ _ (rw (to_z-of_z c.ranges.yac_qi, to_z-of_z c.ranges.uvdc) at c.in_err-uv_dc.ensures))

pub returns-in_err-uv_ac : goal.returns-in_err-uv_ac
returns-in_err-uv_ac c =
    let p = err_from_is_err_and c.from_residual-in_err-uv_ac.result c.from_residual-in_err-uv_ac.ensures.1 in
    rw (p.1, p.2) (uv-ac-refused _ _ _ _ _ _ _ (rw (to_z-of_z c.ranges.yac_qi, to_z-of_z c.ranges.uvac) at c.in_err-uv_ac.ensures))
