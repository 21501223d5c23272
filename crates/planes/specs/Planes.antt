-- A plane that is predicted whole, with the count of its sums that were below 0 or above 255.
use Rattle.std.specs.Prelude.{ℕ, Bool, false, List, ℤ}
use Rattle.macroblock.specs.declared.modes.IntraYMode.{IntraYMode}
use Rattle.macroblock.specs.declared.modes.IntraUvMode.{IntraUvMode}
use Rattle.macroblock.specs.declared.neighbors.LumaEdges.{LumaEdges}
use Rattle.macroblock.specs.declared.neighbors.ChromaEdges.{ChromaEdges}
use Rattle.rfc6386.specs.Walk.{block_at, seeded, plane, y_whole, uv_plane}
use Rattle.clipping.specs.Clipped.{plane_clipped, y_whole_clipped, uv_clipped}

-- from a prediction
unfoldable pub luma_coded : List ℕ → List ℤ → List ℕ × ℕ
luma_coded prediction coeffs =
    (plane 16 false prediction (seeded coeffs), plane_clipped 16 false prediction (seeded coeffs))

unfoldable pub chroma_of : List ℕ → Bool → List ℤ → ℕ → List ℕ × ℕ
chroma_of prediction skip coeffs base =
    (plane 8 skip prediction (block_at coeffs base), plane_clipped 8 skip prediction (block_at coeffs base))

-- of a macroblock
unfoldable pub y_drawn : IntraYMode → Bool → LumaEdges → List ℤ → List ℕ × ℕ
y_drawn mode skip e coeffs = (y_whole mode skip e coeffs, y_whole_clipped mode skip e coeffs)

unfoldable pub uv_drawn : IntraUvMode → Bool → ChromaEdges → List ℤ → ℕ → List ℕ × ℕ
uv_drawn mode skip e coeffs base = (uv_plane mode skip e coeffs base, uv_clipped mode skip e coeffs base)
