-- RFC 6386, 14.2 and 12.3: a macroblock from its modes, its neighbours and its dequantised coefficients.
-- Predict; unless the coefficients are skipped, transform each 4x4 block and add its residue.
use Rattle.std.specs.Prelude.{ℕ, zero, suc, ◌+◌, ◌-◌, ◌*◌, ◌/◌, ◌%◌, Bool, List, [], ◌∷◌, ℤ, pos, ltb, get_or, take, replicate}
use Rattle.lists.specs.Lists.{table, rows, turns, store, pick, part}
use Rattle.macroblock.specs.declared.modes.IntraYMode.{IntraYMode}
use Rattle.macroblock.specs.declared.modes.IntraUvMode.{IntraUvMode}
use Rattle.macroblock.specs.declared.modes.IntraBmode.{IntraBmode}
use Rattle.macroblock.specs.declared.modes.IntraBmode.TheVariants.{Dc}
use Rattle.macroblock.specs.declared.neighbors.LumaEdges.{LumaEdges}
use Rattle.macroblock.specs.declared.neighbors.ChromaEdges.{ChromaEdges}
use Rattle.rfc6386.specs.Wht.{iwht}
use Rattle.rfc6386.specs.Dct.{residue}
use Rattle.rfc6386.specs.Residue.{sum}
use Rattle.rfc6386.specs.Edges.{pixel_or, left_or, predict_y, predict_uv}
use Rattle.rfc6386.specs.Subblock.{predict_b}

-- ---- blocks of coefficients
-- coefficient k of block b of the blocks that start at `base`
abbrev pub block_at : List ℤ → ℕ → ℕ → ℕ → ℤ
block_at coeffs base b k = get_or coeffs (base + 16 * b + k) (pos 0)

-- 14.2: the inverse WHT of the Y2 block, the first 16 of the 400, gives each of the sixteen Y blocks, which follow it, its DC.
-- A Y block's own first coefficient is not used
unfoldable pub seeded : List ℤ → ℕ → ℕ → ℤ
seeded coeffs b zero = get_or (iwht (take 16 coeffs)) b (pos 0)
seeded coeffs b (suc k) = block_at coeffs 16 b (suc k)

-- ---- a plane of n by n pixels, made of 4x4 blocks in raster order: each pixel of the prediction, with its block's residue added
unfoldable pub added_blocks : ℕ → List ℕ → (ℕ → ℕ → ℤ) → List ℕ
added_blocks n prediction block =
    rows n n (λ r c. sum (get_or prediction (r * n + c) 0) (residue (block (n / 4 * (r / 4) + c / 4)) (r % 4) (c % 4)))

-- the prediction alone where the coefficients are skipped
unfoldable pub plane : ℕ → Bool → List ℕ → (ℕ → ℕ → ℤ) → List ℕ
plane n skip prediction block = pick skip prediction (added_blocks n prediction block)

-- ---- what is predicted from the neighbours. A row is the top-left pixel, for which 127 stands where it is absent, then those above
unfoldable pub y_prediction : IntraYMode → LumaEdges → List ℕ
y_prediction mode e =
    predict_y mode (part 16 e.row 1) e.above_there e.left e.left_there (pixel_or 127 (get_or e.row 0 0) e.topleft_there)

unfoldable pub uv_prediction : IntraUvMode → ChromaEdges → List ℕ
uv_prediction mode e =
    predict_uv mode (part 8 e.row 1) e.above_there e.left e.left_there (pixel_or 127 (get_or e.row 0 0) e.topleft_there)

-- ---- the planes of a macroblock. Luma in the four 16x16 modes: 400 coefficients, Y2 first
unfoldable pub y_whole : IntraYMode → Bool → LumaEdges → List ℤ → List ℕ
y_whole mode skip e coeffs = plane 16 skip (y_prediction mode e) (seeded coeffs)

-- chroma: the four blocks of U or V, from `base` on
unfoldable pub uv_plane : IntraUvMode → Bool → ChromaEdges → List ℤ → ℕ → List ℕ
uv_plane mode skip e coeffs base = plane 8 skip (uv_prediction mode e) (block_at coeffs base)

-- ---- luma in mode B: the sixteen sub-blocks in raster order, each predicted from finished pixels and the given borders.
-- The work buffer has 17 rows of 21:
--
--        row  0   P a a a a a a a a a a a a a a a a R R R R      P top-left, a above, R above-right
--        row  1   l . . . . . . . . . . . . . . . . - - - -      l left, . the macroblock
--             ..
--        row  4   l . . . . . . . . . . . . . . . . R R R R      above-right again, for the sub-blocks of the
--             ..                                                 right column in rows 1, 2 and 3
--        row  8   l . . . . . . . . . . . . . . . . R R R R
--             ..
--        row 12   l . . . . . . . . . . . . . . . . R R R R
--             ..
--        row 16   l . . . . . . . . . . . . . . . . - - - -      - is never read
-- s's first n pixels, stored from `at` on, `step` apart
unfoldable pub laid : ℕ → ℕ → ℕ → List ℕ → List ℕ → List ℕ
laid n at step s b = turns n (store (λ i. at + i * step) (λ i. get_or s i 0)) b

unfoldable pub blank : List ℕ
blank = replicate 357 0

-- row 0, the column to the left, and the row's last four again
unfoldable pub copied_down : List ℕ → List ℕ → List ℕ
copied_down right b = laid 4 269 1 right (laid 4 185 1 right (laid 4 101 1 right b))

unfoldable pub bordered : List ℕ → List ℕ → List ℕ
bordered row left = copied_down (part 4 row 17) (laid 16 21 21 left (laid 21 0 1 row blank))

-- row 0 is the record's row, with 127 in the place of each absent part: the first pixel, the next sixteen, the last four
abbrev pub there_at : LumaEdges → ℕ → Bool
there_at e i = pick (ltb i 1) e.topleft_there (pick (ltb i 17) e.above_there e.above_right_there)

unfoldable pub row_or : LumaEdges → List ℕ
row_or e = table 21 (λ i. pixel_or 127 (get_or e.row i 0) (there_at e i))

-- an absent border is 127 in the row above and 129 to the left, in every 4x4 mode
unfoldable pub start_of : LumaEdges → List ℕ
start_of e = bordered (row_or e) (left_or 16 e.left e.left_there)

-- where sub-block k begins in the buffer
abbrev pub corner_of : ℕ → ℕ
corner_of k = 22 + 84 * (k / 4) + 4 * (k % 4)

-- the eight pixels above and above-right of a sub-block, the four to its left, and the one above left
unfoldable pub above_in : List ℕ → ℕ → List ℕ
above_in b at =
    get_or b (at - 21) 0 ∷ get_or b (at - 20) 0 ∷ get_or b (at - 19) 0 ∷ get_or b (at - 18) 0 ∷
    get_or b (at - 17) 0 ∷ get_or b (at - 16) 0 ∷ get_or b (at - 15) 0 ∷ get_or b (at - 14) 0 ∷ []

unfoldable pub left_in : List ℕ → ℕ → List ℕ
left_in b at = get_or b (at - 1) 0 ∷ get_or b (at + 20) 0 ∷ get_or b (at + 41) 0 ∷ get_or b (at + 62) 0 ∷ []

unfoldable pub top_left_in : List ℕ → ℕ → ℕ
top_left_in b at = get_or b (at - 22) 0

-- the prediction of sub-block k from the buffer as it stands
unfoldable pub sub_prediction : List IntraBmode → ℕ → List ℕ → List ℕ
sub_prediction modes k b =
    predict_b (get_or modes k Dc) (above_in b (corner_of k)) (left_in b (corner_of k)) (top_left_in b (corner_of k))

-- the sixteen pixels of sub-block k: the prediction, with its residue added unless the coefficients are skipped
unfoldable pub sub_pixels : Bool → List ℕ → (ℕ → ℤ) → List ℕ
sub_pixels skip prediction block =
    pick skip prediction (table 16 (λ i. sum (get_or prediction i 0) (residue block (i / 4) (i % 4))))

-- sixteen pixels put into the buffer as four rows
unfoldable pub put_block : ℕ → List ℕ → List ℕ → List ℕ
put_block at px b = turns 16 (store (λ i. at + 21 * (i / 4) + i % 4) (λ i. get_or px i 0)) b

-- sub-block k of the walk, and the buffer after the first n
unfoldable pub sub_block : List IntraBmode → Bool → List ℤ → ℕ → List ℕ → List ℕ
sub_block modes skip coeffs k b = put_block (corner_of k) (sub_pixels skip (sub_prediction modes k b) (block_at coeffs 0 k)) b

unfoldable pub walked : ℕ → List IntraBmode → Bool → List ℤ → List ℕ → List ℕ
walked n modes skip coeffs b = turns n (sub_block modes skip coeffs) b

-- the 256 pixels of the macroblock
unfoldable pub luma_of : List ℕ → List ℕ
luma_of b = rows 16 16 (λ r c. get_or b (22 + 21 * r + c) 0)

unfoldable pub y_parts : List IntraBmode → Bool → LumaEdges → List ℤ → List ℕ
y_parts modes skip e coeffs = luma_of (walked 16 modes skip coeffs (start_of e))
