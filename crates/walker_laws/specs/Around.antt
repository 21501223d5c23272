-- RFC 6386, 12.3: luma mode B by its rule. Each of the sixteen sub-blocks is predicted from the pixels around it: finished pixels of the same
-- macroblock, or the given borders.
--
--        row  0   P a a a a a a a a a a a a a a a a R R R R      P top-left, a above, R above-right
--        row  1   l . . . . . . . . . . . . . . . . R R R R      l left, . the macroblock
--        row  2   l . . . . . . . . . . . . . . . . R R R R      right of the macroblock every row has the above-right pixels: the
--             ..                                                 sub-blocks of the right column read them in rows 0, 4, 8 and 12
--        row 16   l . . . . . . . . . . . . . . . . R R R R
use Rattle.std.specs.Prelude.{ℕ, zero, suc, ◌+◌, ◌*◌, ◌/◌, ◌%◌, ◌<◌, ◌≡◌, Bool, List, ltb, ℤ, get_or}
use Rattle.lists.specs.Lists.{table, pick}
use Rattle.macroblock.specs.declared.modes.IntraBmode.{IntraBmode}
use Rattle.macroblock.specs.declared.modes.IntraBmode.TheVariants.{Dc}
use Rattle.macroblock.specs.declared.neighbors.LumaEdges.{LumaEdges}
use Rattle.rfc6386.specs.Edges.{pixel_or}
use Rattle.rfc6386.specs.Subblock.{predict_b}
use Rattle.rfc6386.specs.Walk.{block_at, there_at, sub_pixels}

-- pixel c of the row above, 127 where its part is absent
abbrev pub in_row : LumaEdges → ℕ → ℕ
in_row e c = pixel_or 127 (get_or e.row c 0) (there_at e c)

-- the pixel at row r and column c of the macroblock y with its border; the macroblock's own rows and columns are counted from 1
unfoldable pub around : LumaEdges → List ℕ → ℕ → ℕ → ℕ
around e y zero c = in_row e c
around e y (suc r) zero = pixel_or 129 (get_or e.left r 0) e.left_there
around e y (suc r) (suc c) = pick (ltb c 16) (get_or y (16 * r + c) 0) (in_row e (suc c))

-- ---- what sub-block k reads: A0 .. A7 above and above-right of it, L0 .. L3 to its left, P above left
-- the row above it, the column to its left, the columns from its first on, and the rows from its first on
abbrev pub row_above : ℕ → ℕ
row_above k = 4 * (k / 4)

abbrev pub column_left : ℕ → ℕ
column_left k = 4 * (k % 4)

abbrev pub column : ℕ → ℕ → ℕ
column k i = 4 * (k % 4) + 1 + i

abbrev pub row : ℕ → ℕ → ℕ
row k i = 4 * (k / 4) + 1 + i

unfoldable pub above_sub : LumaEdges → List ℕ → ℕ → List ℕ
above_sub e y k = table 8 (λ i. around e y (row_above k) (column k i))

unfoldable pub left_sub : LumaEdges → List ℕ → ℕ → List ℕ
left_sub e y k = table 4 (λ i. around e y (row k i) (column_left k))

unfoldable pub corner_sub : LumaEdges → List ℕ → ℕ → ℕ
corner_sub e y k = around e y (row_above k) (column_left k)

unfoldable pub predict_sub : List IntraBmode → LumaEdges → List ℕ → ℕ → List ℕ
predict_sub modes e y k = predict_b (get_or modes k Dc) (above_sub e y k) (left_sub e y k) (corner_sub e y k)

-- ---- the sixteen pixels of sub-block k in the 256 of a macroblock
abbrev pub place_in : ℕ → ℕ → ℕ
place_in k i = 16 * (4 * (k / 4) + i / 4) + (4 * (k % 4) + i % 4)

unfoldable pub sub_of : List ℕ → ℕ → List ℕ
sub_of y k = table 16 (λ i. get_or y (place_in k i) 0)

-- ---- the rule: each sub-block is its prediction from the pixels around it, with its residue added unless the coefficients are skipped
abbrev pub Ruled : List IntraBmode → Bool → LumaEdges → List ℤ → List ℕ → Type 0
Ruled modes skip e coeffs y = (k : ℕ) → k < 16 → sub_of y k ≡ sub_pixels skip (predict_sub modes e y k) (block_at coeffs 0 k)
