-- `reconstruct::with_chroma` meets its contract. Assumes nothing.
use Prim.Native.Nat.{◌≤◌}
use mathlib.Core.Path.{refl}
use native.Mathlib.Omega.{arith}
use Rattle.clipping.proofs.Bounds.{uv-≤}
use Rattle.planes.specs.Planes.{uv_drawn}
use Rattle.reconstruct.specs.Answers.{macroblock_of}
use Rattle.reconstruct.proofs.with_chroma.Goals as goal

pub returns : goal.returns
unfolding macroblock_of uv_drawn
returns c = rw (c.uv_plane-u_clipped.ensures, c.uv_plane-v_clipped.ensures) refl

pub overflow_add-result : goal.overflow_add-result
unfolding uv_drawn
overflow_add-result c =
    let b : c.uv_plane-u_clipped.result.1 ≤ 64 = rw c.uv_plane-u_clipped.ensures (uv-≤ _ _ _ _ _) in
    omega (arith, b)

pub overflow_add-result-2 : goal.overflow_add-result-2
unfolding uv_drawn
overflow_add-result-2 c =
    let b : c.uv_plane-u_clipped.result.1 ≤ 64 = rw c.uv_plane-u_clipped.ensures (uv-≤ _ _ _ _ _) in
    let d : c.uv_plane-v_clipped.result.1 ≤ 64 = rw c.uv_plane-v_clipped.ensures (uv-≤ _ _ _ _ _) in
    omega (arith, b, d)
