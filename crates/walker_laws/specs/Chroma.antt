-- RFC 6386, 12.2 and 14.2: chroma by its rule, in every luma mode. A plane is predicted whole from its own edges, and its four blocks have the residues of their own
-- coefficients added: U's four blocks come after the luma's, and V's after them.
use Rattle.std.specs.Prelude.{ℕ, ◌+◌, ◌*◌, Bool, List, ℤ, pos, get_or}
use Rattle.macroblock.specs.declared.modes.IntraUvMode.{IntraUvMode}
use Rattle.macroblock.specs.declared.neighbors.MbNeighbors.{MbNeighbors}
use Rattle.rfc6386.specs.Walk.{plane, uv_prediction}

-- how many coefficients come before U's: sixteen Y blocks in luma mode B, and a Y2 block before them in the 16x16 modes
abbrev pub luma_of_b : ℕ
luma_of_b = 256

abbrev pub luma_of_16x16 : ℕ
luma_of_16x16 = 272

-- coefficient i of U's block b, and of V's, after `luma` coefficients
abbrev pub u_block : ℕ → List ℤ → ℕ → ℕ → ℤ
u_block luma coeffs b i = get_or coeffs (luma + 16 * b + i) (pos 0)

abbrev pub v_block : ℕ → List ℤ → ℕ → ℕ → ℤ
v_block luma coeffs b i = get_or coeffs (luma + 64 + 16 * b + i) (pos 0)

unfoldable pub chroma_u : ℕ → IntraUvMode → Bool → MbNeighbors → List ℤ → List ℕ
chroma_u luma mode skip n coeffs = plane 8 skip (uv_prediction mode n.u) (u_block luma coeffs)

unfoldable pub chroma_v : ℕ → IntraUvMode → Bool → MbNeighbors → List ℤ → List ℕ
chroma_v luma mode skip n coeffs = plane 8 skip (uv_prediction mode n.v) (v_block luma coeffs)
