-- RFC 6386, 14.5: where prediction plus residue hit the stop. A sum is counted where it is below 0 or above 255 before it is held within them.
--     over             one pixel
--     block_clipped     a block's pixels; clipped_at, those of a block of a plane; dc_clipped, those of a block by its DC alone
--     plane_clipped     a plane predicted whole; y_whole_clipped, uv_clipped of a macroblock
--     y_parts_clipped    luma in mode B
-- Where the coefficients are skipped nothing is summed, and the count is 0.
use Rattle.std.specs.Prelude.{ℕ, ◌+◌, ◌*◌, ◌/◌, ◌%◌, Bool, List, ltb, ℤ, pos, negsuc, ◌+ℤ◌, get_or}
use Rattle.std.specs.Int.Signed.{shr_z}
use Rattle.lists.specs.Lists.{pick, total}
use Rattle.macroblock.specs.declared.modes.IntraYMode.{IntraYMode}
use Rattle.macroblock.specs.declared.modes.IntraUvMode.{IntraUvMode}
use Rattle.macroblock.specs.declared.modes.IntraBmode.{IntraBmode}
use Rattle.macroblock.specs.declared.neighbors.LumaEdges.{LumaEdges}
use Rattle.macroblock.specs.declared.neighbors.ChromaEdges.{ChromaEdges}
use Rattle.rfc6386.specs.Dct.{residue}
use Rattle.rfc6386.specs.Walk.{block_at, seeded, y_prediction, uv_prediction, start_of, sub_prediction, walked}

-- 1 below 0 and above 255, else 0
unfoldable pub outside : ℤ → ℕ
outside (pos n) = pick (ltb 255 n) 1 0
outside (negsuc n) = 1

-- one pixel: the sum, in whole numbers without bound
unfoldable pub over : ℕ → ℤ → ℕ
over p r = outside (pos p +ℤ r)

-- the first n pixels of a block and the residue that is added to them, as `summed` adds it
unfoldable pub block_clipped : ℕ → List ℕ → List ℤ → ℕ
block_clipped n prediction residue = total n λ i. over (get_or prediction i 0) (get_or residue i (pos 0))

-- the 4x4 block of a plane whose first pixel is at `at`, as `added_at` adds to it
unfoldable pub clipped_at : ℕ → ℕ → List ℤ → List ℕ → ℕ
clipped_at at stride residue l = total 16 λ i. over (get_or l (at + (i / 4 * stride + i % 4)) 0) (get_or residue i (pos 0))

-- a block whose only coefficient that is not 0 is its first, by that coefficient alone
unfoldable pub dc_clipped : List ℕ → ℤ → ℕ
dc_clipped prediction dc = total 16 λ i. over (get_or prediction i 0) (shr_z (dc +ℤ pos 4) 8)

-- ---- a plane of n by n pixels, made of 4x4 blocks in raster order: each pixel with the residue that `added_blocks` adds to it
unfoldable pub blocks_clipped : ℕ → List ℕ → (ℕ → ℕ → ℤ) → ℕ
blocks_clipped n prediction block =
    total n λ r. total n λ c. over (get_or prediction (r * n + c) 0) (residue (block (n / 4 * (r / 4) + c / 4)) (r % 4) (c % 4))

unfoldable pub plane_clipped : ℕ → Bool → List ℕ → (ℕ → ℕ → ℤ) → ℕ
plane_clipped n skip prediction block = pick skip 0 (blocks_clipped n prediction block)

-- ---- the planes of a macroblock, by the parameters of `y_whole` and `uv_plane`
unfoldable pub y_whole_clipped : IntraYMode → Bool → LumaEdges → List ℤ → ℕ
y_whole_clipped mode skip e coeffs = plane_clipped 16 skip (y_prediction mode e) (seeded coeffs)

unfoldable pub uv_clipped : IntraUvMode → Bool → ChromaEdges → List ℤ → ℕ → ℕ
uv_clipped mode skip e coeffs base = plane_clipped 8 skip (uv_prediction mode e) (block_at coeffs base)

-- ---- luma in mode B, by the parameters of `sub_pixels`, `walked` and `y_parts`
-- a sub-block's sixteen pixels, each with the residue that `sub_pixels` adds to it
unfoldable pub sub_clipped : Bool → List ℕ → (ℕ → ℤ) → ℕ
sub_clipped skip prediction block = pick skip 0 (total 16 λ i. over (get_or prediction i 0) (residue block (i / 4) (i % 4)))

-- the first n sub-blocks of the walk from the buffer b, sub-block k predicted from the buffer as the first k left it
unfoldable pub walked_clipped : ℕ → List IntraBmode → Bool → List ℤ → List ℕ → ℕ
walked_clipped n modes skip coeffs b =
    total n λ k. sub_clipped skip (sub_prediction modes k (walked k modes skip coeffs b)) (block_at coeffs 0 k)

unfoldable pub y_parts_clipped : List IntraBmode → Bool → LumaEdges → List ℤ → ℕ
y_parts_clipped modes skip e coeffs = walked_clipped 16 modes skip coeffs (start_of e)
