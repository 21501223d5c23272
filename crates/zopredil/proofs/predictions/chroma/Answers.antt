-- `zopredil::predictions::chroma` meets its contract. Assumes nothing.
use mathlib.Core.Path.{refl}
use Rattle.std.proofs.lemmas.Result.{err_from_is_err_and}
use Rattle.lists.proofs.Pairs.{pair}
use Rattle.drawing.proofs.Bytes.{uv-none, uv-one}
use Rattle.zopredil.specs.Predictions.{chroma_drawn}
use Rattle.zopredil.proofs.predictions.chroma.Goals as goal

pub returns-in_err-mode : goal.returns-in_err-mode
unfolding chroma_drawn
returns-in_err-mode c =
    let p = err_from_is_err_and c.from_residual.result c.from_residual.ensures.1 in
    let k = uv-none _ _ c.in_err-mode.ensures in
    rw (p.1, p.2, k.0, k.1) refl

pub returns : goal.returns
unfolding chroma_drawn
returns c =
    let k = uv-one _ _ c.in_ok-mode.ensures in
    rw (k.0, ← k.1, ← c.array.ensures, ← c.array-2.ensures) (pair refl c.predict_uv8x8.ensures)
