-- What changes no plane: the coefficients of a skipped macroblock, and a luma block's own first coefficient where the Y2 block gives its DC.
-- Assumes nothing.
use Prim.Native.Nat.{ℕ, zero, suc, ◌+◌, ◌*◌, ◌/◌, ◌<◌, ◌≤◌}
use mathlib.Core.Path.{◌≡◌, refl, ap, ◌∙◌}
use mathlib.Core.Bool.{Bool, true}
use mathlib.Core.List.{List}
use native.Mathlib.Omega.{arith}
use lib.IntN.{ℤ, pos}
use lib.ListN.{get_or, take}
use lib.Seq.{get_or-take}
use Rattle.macroblock.specs.declared.modes.IntraYMode.{IntraYMode}
use Rattle.macroblock.specs.declared.modes.IntraUvMode.{IntraUvMode}
use Rattle.macroblock.specs.declared.modes.IntraBmode.{IntraBmode}
use Rattle.macroblock.specs.declared.neighbors.LumaEdges.{LumaEdges}
use Rattle.macroblock.specs.declared.neighbors.ChromaEdges.{ChromaEdges}
use Rattle.rfc6386.specs.Walk.{block_at, seeded, plane, y_prediction, uv_prediction, y_whole, uv_plane, sub_pixels, sub_block, walked, y_parts}
use Rattle.rfc6386.proofs.Planes.{plane-ext, iwht-ext}

-- ---- skipped: the prediction alone
module _ (e : LumaEdges) (coeffs : List ℤ) where
  pub y_whole-skipped : (mode : IntraYMode) → y_whole mode true e coeffs ≡ y_prediction mode e
  unfolding y_whole plane
  y_whole-skipped mode = refl

  pub y_parts-skipped : (modes : List IntraBmode) (others : List ℤ) → y_parts modes true e coeffs ≡ y_parts modes true e others
  unfolding y_parts walked sub_block sub_pixels
  y_parts-skipped modes others = refl

pub uv_plane-skipped : (e : ChromaEdges) (coeffs : List ℤ) (mode : IntraUvMode) (base : ℕ) → uv_plane mode true e coeffs base ≡ uv_prediction mode e
unfolding uv_plane plane
uv_plane-skipped e coeffs mode base = refl

-- ---- two lists of 400 coefficients that differ at most in the own first coefficients of the sixteen Y blocks
abbrev pub SameButDc : List ℤ → List ℤ → Type 0
SameButDc c d = (j : ℕ) → ((b : ℕ) → b < 16 → j ≡ 16 + 16 * b → ⊥) → get_or c j (pos 0) ≡ get_or d j (pos 0)

module _ (c d : List ℤ) (e : SameButDc c d) where
  pub seeded-same : (b k : ℕ) → k < 16 → seeded c b k ≡ seeded d b k
  unfolding seeded
  seeded-same b zero l =
      ap (λ (z : List ℤ). get_or z b (pos 0))
      (iwht-ext (take 16 c) (take 16 d) λ k h. get_or-take 16 c k (pos 0) h ∙ e k (λ a p q. omega arith) ∙ rw (get_or-take 16 d k (pos 0) h))
  seeded-same b (suc k) l = e (16 + 16 * b + suc k) (λ a p q. omega arith)

  pub y_whole-own-dc : (n : LumaEdges) (skip : Bool) (mode : IntraYMode) → y_whole mode skip n c ≡ y_whole mode skip n d
  unfolding y_whole
  y_whole-own-dc n skip mode = plane-ext 16 skip (y_prediction mode n) (seeded c) (seeded d) (λ r s k h i l. seeded-same (16 / 4 * (r / 4) + s / 4) k l)

  pub uv_plane-own-dc : (n : ChromaEdges) (skip : Bool) (mode : IntraUvMode) (base : ℕ) → 272 ≤ base → uv_plane mode skip n c base ≡ uv_plane mode skip n d base
  unfolding uv_plane
  uv_plane-own-dc n skip mode base h =
      plane-ext 8 skip (uv_prediction mode n) (block_at c base) (block_at d base) (λ r s k _ _ _. e (base + 16 * (8 / 4 * (r / 4) + s / 4) + k) (λ a p q. omega arith))
