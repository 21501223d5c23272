-- How many sums can be counted: at most 16 a block, 256 a plane of luma, 64 a plane of chroma, 384 a macroblock; and no count of a still passes
-- 64 bits.
-- Assumes nothing.
use mathlib.Core.Bool.{Bool, true, false}
use mathlib.Core.List.{List}
use Prim.Native.Nat.{ℕ, ◌+◌, ◌*◌, ◌/◌, ◌%◌, ◌<◌, ◌≤◌}
use native.Mathlib.Nat.{mul-le-mul, mul-one}
use native.Mathlib.Omega.{arith}
use lib.IntN.{ℤ, pos}
use lib.ListN.{get_or}
use Rattle.macroblock.specs.declared.modes.IntraYMode.{IntraYMode}
use Rattle.macroblock.specs.declared.modes.IntraUvMode.{IntraUvMode}
use Rattle.macroblock.specs.declared.modes.IntraBmode.{IntraBmode}
use Rattle.macroblock.specs.declared.neighbors.LumaEdges.{LumaEdges}
use Rattle.macroblock.specs.declared.neighbors.ChromaEdges.{ChromaEdges}
use Rattle.macroblock.specs.declared.neighbors.MbNeighbors.{MbNeighbors}
use Rattle.rfc6386.specs.Dct.{residue}
use Rattle.rfc6386.specs.Walk.{block_at, seeded, y_prediction, uv_prediction, start_of, sub_prediction, walked}
use Rattle.clipping.specs.Clipped.{over, block_clipped, clipped_at, blocks_clipped, plane_clipped, y_whole_clipped, uv_clipped, sub_clipped, walked_clipped, y_parts_clipped}
use Rattle.lists.specs.Lists.{total}
use Rattle.lists.proofs.Total.{total-≤}
use Rattle.clipping.proofs.Counted.{over-≤}
use Rattle.clipping.proofs.Skipped.{plane-skipped}

-- ---- n sums
sums-≤ : (n : ℕ) (p : ℕ → ℕ) (r : ℕ → ℤ) → total n (λ i. over (p i) (r i)) ≤ n
sums-≤ n p r = omega (arith, total-≤ 1 n (λ i. over (p i) (r i)) (λ i h. over-≤ (p i) (r i)), mul-one n)

-- ---- a block
pub block-≤ : (n : ℕ) (p : List ℕ) (r : List ℤ) → block_clipped n p r ≤ n
unfolding block_clipped
block-≤ n p r = sums-≤ n (λ i. get_or p i 0) (λ i. get_or r i (pos 0))

pub at-≤ : (at stride : ℕ) (r : List ℤ) (l : List ℕ) → clipped_at at stride r l ≤ 16
unfolding clipped_at
at-≤ at stride r l = sums-≤ 16 (λ i. get_or l (at + (i / 4 * stride + i % 4)) 0) (λ i. get_or r i (pos 0))

pub sub-≤ : (skip : Bool) (p : List ℕ) (x : ℕ → ℤ) → sub_clipped skip p x ≤ 16
unfolding sub_clipped
sub-≤ true p x = omega arith
sub-≤ false p x = sums-≤ 16 (λ i. get_or p i 0) (λ i. residue x (i / 4) (i % 4))

-- ---- a plane
pub plane-≤ : (n : ℕ) (skip : Bool) (p : List ℕ) (x : ℕ → ℕ → ℤ) → plane_clipped n skip p x ≤ n * n
unfolding plane_clipped blocks_clipped
plane-≤ n true p x = rw (plane-skipped n p x) (omega arith)
plane-≤ n false p x =
    total-≤ n n _ λ r h. sums-≤ n (λ c. get_or p (r * n + c) 0) (λ c. residue (x (n / 4 * (r / 4) + c / 4)) (r % 4) (c % 4))

pub y-whole-≤ : (mode : IntraYMode) (skip : Bool) (n : LumaEdges) (coeffs : List ℤ) → y_whole_clipped mode skip n coeffs ≤ 256
unfolding y_whole_clipped
y-whole-≤ mode skip n coeffs = plane-≤ 16 skip (y_prediction mode n) (seeded coeffs)

pub uv-≤ : (mode : IntraUvMode) (skip : Bool) (n : ChromaEdges) (coeffs : List ℤ) (base : ℕ) → uv_clipped mode skip n coeffs base ≤ 64
unfolding uv_clipped
uv-≤ mode skip n coeffs base = plane-≤ 8 skip (uv_prediction mode n) (block_at coeffs base)

-- n sub-blocks of mode B
pub walked-≤ : (n : ℕ) (modes : List IntraBmode) (skip : Bool) (coeffs : List ℤ) (b : List ℕ) → walked_clipped n modes skip coeffs b ≤ n * 16
unfolding walked_clipped
walked-≤ n modes skip coeffs b =
    total-≤ 16 n _ λ k h. sub-≤ skip (sub_prediction modes k (walked k modes skip coeffs b)) (block_at coeffs 0 k)

pub y-parts-≤ : (modes : List IntraBmode) (skip : Bool) (n : LumaEdges) (coeffs : List ℤ) → y_parts_clipped modes skip n coeffs ≤ 256
unfolding y_parts_clipped
y-parts-≤ modes skip n coeffs = walked-≤ 16 modes skip coeffs (start_of n)

-- ---- a macroblock, in a 16x16 mode and in mode B
module _ (uv : IntraUvMode) (skip : Bool) (n : MbNeighbors) (coeffs : List ℤ) (u v : ℕ) where
  pub macroblock-≤ : (mode : IntraYMode) → y_whole_clipped mode skip n.y coeffs + uv_clipped uv skip n.u coeffs u + uv_clipped uv skip n.v coeffs v ≤ 384
  macroblock-≤ mode = omega (arith, y-whole-≤ mode skip n.y coeffs, uv-≤ uv skip n.u coeffs u, uv-≤ uv skip n.v coeffs v)

  pub macroblock-B-≤ : (modes : List IntraBmode) → y_parts_clipped modes skip n.y coeffs + uv_clipped uv skip n.u coeffs u + uv_clipped uv skip n.v coeffs v ≤ 384
  macroblock-B-≤ modes = omega (arith, y-parts-≤ modes skip n.y coeffs, uv-≤ uv skip n.u coeffs u, uv-≤ uv skip n.v coeffs v)

-- ---- the first n macroblocks of a still of w by h, which are at most 1024 each: 402,653,184 is 1024 * 1024 * 384
module _ (n w h : ℕ) (count : ℕ → ℕ) (p : w ≤ 1024) (q : h ≤ 1024) (l : n ≤ w * h) (m : (k : ℕ) → k < n → count k ≤ 384) where
  pub still-≤ : total n count ≤ 402653184
  still-≤ = omega (arith, total-≤ 384 n count m, mul-le-mul p q)

  pub still-64-bits : total n count < 18446744073709551616
  still-64-bits = omega (arith, still-≤)
