-- What changes no count: the bytes of an absent part of an edge, the coefficients of a skipped macroblock, and a Y block's own first coefficient in the walker of the
-- 16x16 modes. Assumes nothing.
use Prim.Native.Nat.{ℕ, ◌+◌, ◌*◌, ◌/◌, ◌%◌, ◌<◌, ◌≤◌}
use mathlib.Core.Path.{◌≡◌, refl, ap}
use mathlib.Core.Bool.{Bool, true, false}
use mathlib.Core.List.{List}
use native.Mathlib.Omega.{arith}
use lib.IntN.{ℤ}
use lib.ListN.{get_or}
use Rattle.macroblock.specs.declared.modes.IntraYMode.{IntraYMode}
use Rattle.macroblock.specs.declared.modes.IntraUvMode.{IntraUvMode}
use Rattle.macroblock.specs.declared.modes.IntraBmode.{IntraBmode}
use Rattle.macroblock.specs.declared.neighbors.LumaEdges.{LumaEdges}
use Rattle.macroblock.specs.declared.neighbors.ChromaEdges.{ChromaEdges}
use Rattle.rfc6386.specs.Walk.{block_at, seeded, y_prediction, uv_prediction}
use Rattle.rfc6386.proofs.Absent.{SameLuma, SameChroma, y_prediction-same, uv_prediction-same, start-same}
use Rattle.rfc6386.proofs.Unused.{SameButDc, seeded-same}
use Rattle.rfc6386.proofs.DctBlocks.{residue-ext}
use Rattle.clipping.specs.Clipped.{over, blocks_clipped, plane_clipped, y_whole_clipped, uv_clipped, y_parts_clipped}
use Rattle.lists.proofs.Total.{total_ext}

-- ---- the bytes of an absent part
module _ {d e : LumaEdges} (same : SameLuma d e) (skip : Bool) (c : List ℤ) where
  pub y-same : (mode : IntraYMode) → y_whole_clipped mode skip d c ≡ y_whole_clipped mode skip e c
  unfolding y_whole_clipped
  y-same mode = rw (y_prediction-same same mode)

  pub parts_same : (modes : List IntraBmode) → y_parts_clipped modes skip d c ≡ y_parts_clipped modes skip e c
  unfolding y_parts_clipped
  parts_same modes = rw (start-same same)

pub uv-same : {d e : ChromaEdges} → SameChroma d e → (skip : Bool) (c : List ℤ) (mode : IntraUvMode) (base : ℕ)
    → uv_clipped mode skip d c base ≡ uv_clipped mode skip e c base
unfolding uv_clipped
uv-same same skip c mode base = rw (uv_prediction-same same mode)

-- ---- blocks that agree count the same
plane-counts : (n : ℕ) (skip : Bool) (p : List ℕ) (x y : ℕ → ℕ → ℤ) → ((b k : ℕ) → k < 16 → x b k ≡ y b k) → plane_clipped n skip p x ≡ plane_clipped n skip p y
unfolding plane_clipped blocks_clipped
plane-counts n true p x y e = refl
plane-counts n false p x y e =
    total_ext n _ _ λ r l.
    total_ext n _ _ λ c k.
    ap (λ (z : ℤ). over (get_or p (r * n + c) 0) z)
    (residue-ext (x (n / 4 * (r / 4) + c / 4)) (y (n / 4 * (r / 4) + c / 4)) (λ i h. e (n / 4 * (r / 4) + c / 4) i h) (r % 4) (c % 4))

-- ---- the own first coefficient of a Y block
module _ (c d : List ℤ) (e : SameButDc c d) where
  pub y-own-dc : (n : LumaEdges) (skip : Bool) (mode : IntraYMode) → y_whole_clipped mode skip n c ≡ y_whole_clipped mode skip n d
  unfolding y_whole_clipped
  y-own-dc n skip mode = plane-counts 16 skip (y_prediction mode n) (seeded c) (seeded d) (seeded-same c d e)

  pub uv-own-dc : (n : ChromaEdges) (skip : Bool) (mode : IntraUvMode) (base : ℕ) → 272 ≤ base → uv_clipped mode skip n c base ≡ uv_clipped mode skip n d base
  unfolding uv_clipped
  uv-own-dc n skip mode base h =
      plane-counts 8 skip (uv_prediction mode n) (block_at c base) (block_at d base) (λ b k l. e (base + 16 * b + k) (λ a p q. omega arith))
