-- `zopredil::predictions::sub_block` meets its contract. Assumes nothing.
use mathlib.Core.Path.{refl, ◌∙◌}
use Rattle.std.proofs.lemmas.Result.{err_from_is_err_and}
use Rattle.lists.proofs.Pairs.{pair}
use Rattle.slices.proofs.Copied.{or-zeros-fit}
use Rattle.zopredil.specs.Predictions.{sub_block_drawn}
use Rattle.zopredil.proofs.Predicted.{sub-none, sub-one}
use Rattle.zopredil.proofs.predictions.sub_block.Goals as goal

pub returns-in_err-mode : goal.returns-in_err-mode
unfolding sub_block_drawn
returns-in_err-mode c =
    let p = err_from_is_err_and c.from_residual.result c.from_residual.ensures.1 in
    let k = sub-none _ _ c.in_err-mode.ensures in
    rw (p.1, p.2, k.0, k.1) refl

pub returns : goal.returns
unfolding sub_block_drawn
returns c =
    let k = sub-one _ _ c.in_ok-mode.ensures in
    rw k.0
    (pair refl
    (c.predict_b4x4.ensures
    ∙ rw (c.array.ensures ∙ or-zeros-fit 0 8 _ c.requires.0, c.array-2.ensures ∙ or-zeros-fit 0 4 _ c.requires.1, k.1) refl))
