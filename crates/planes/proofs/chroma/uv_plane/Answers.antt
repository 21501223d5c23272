-- `planes::uv_plane` meets its contract. Assumes nothing.
use mathlib.Core.Path.{refl}
use Rattle.rfc6386.specs.Walk.{uv_plane, uv_prediction}
use Rattle.clipping.specs.Clipped.{uv_clipped}
use Rattle.planes.specs.Planes.{chroma_of, uv_drawn}
use Rattle.planes.proofs.chroma.uv_plane.Goals as goal

pub returns : goal.returns
unfolding uv_drawn uv_plane uv_prediction uv_clipped chroma_of
returns c =
    rw (c.plane.ensures, c.predict_uv8x8-prediction.ensures, c.above.ensures, c.pixel_or-p.ensures) refl
