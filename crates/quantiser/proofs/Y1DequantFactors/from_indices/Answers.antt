-- `quantiser::Y1DequantFactors::from_indices` meets its contract. Assumes nothing.
use mathlib.Core.Path.{◌≡◌, ap, ◌∙◌}
use lib.IntN.{pos}
use lib.ListN.{get_or-map}
use borrow.Author.Rules.{rules}
use mir.Facts.{to_z-of_z}
use Rattle.std.proofs.lemmas.Result.{err_from_is_err_and}
use Rattle.whole.proofs.Held.{R32, held16}
use Rattle.rfc6386.specs.Quantiser.{dc_lookup, ac_lookup, clamp_index, dc_factor, ac_factor}
use Rattle.quantiser.proofs.Sum.{y1-refused, y1-given}
use Rattle.quantiser.proofs.Y1DequantFactors.from_indices.Goals as goal

pub returns-in_err-dc_qi : goal.returns-in_err-dc_qi
returns-in_err-dc_qi c =
    let f = c.ranges in
    let p = err_from_is_err_and c.from_residual.result c.from_residual.ensures.1 in
    rw (p.1, p.2) (y1-refused _ _ _ (rw (to_z-of_z f.yac_qi, to_z-of_z f.ydc_delta) at c.in_err-dc_qi.ensures))

pub returns : goal.returns
unfolding dc_lookup ac_lookup dc_factor ac_factor
returns c =
    let f = c.ranges in
    let z = c.in_ok-dc_qi.dc_qi in
    let e : R32 z ≡ z = search rules in
    y1-given _ _ _ _ _ (rw (to_z-of_z f.yac_qi, to_z-of_z f.ydc_delta) at c.in_ok-dc_qi.ensures)
    (held16 _ c.factor.type_inv ∙ c.factor.ensures ∙ get_or-map pos dc_lookup (clamp_index (R32 z)) 0 ∙ ap dc_factor e)
    (held16 _ c.factor-2.type_inv ∙ c.factor-2.ensures ∙ get_or-map pos ac_lookup (clamp_index (R32 c.args.yac_qi)) 0 ∙ ap ac_factor (to_z-of_z f.yac_qi))
