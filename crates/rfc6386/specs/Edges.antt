-- RFC 6386, 12.2: prediction of a block of n by n pixels from the n above it and the n to its left: 16x16 luma and 8x8 chroma.
-- An edge is its pixels with a mark whether it is there. The pixels of an absent edge are read nowhere: 127 stands for each of an
-- absent row above, 129 for each of an absent left column, except in DC.
use Rattle.std.specs.Prelude.{ℕ, ◌+◌, ◌*◌, ◌/◌, Bool, true, false, List, [], ◌∷◌, pos, ◌+ℤ◌, ◌-ℤ◌, get_or, replicate}
use Rattle.whole.specs.Whole.{clamp}
use Rattle.lists.specs.Lists.{rows, pick}
use Rattle.macroblock.specs.declared.modes.IntraYMode.{IntraYMode}
use Rattle.macroblock.specs.declared.modes.IntraYMode.TheVariants as y
use Rattle.macroblock.specs.declared.modes.IntraUvMode.{IntraUvMode}
use Rattle.macroblock.specs.declared.modes.IntraUvMode.TheVariants as uv

-- n pixels an edge: as given where it is there, else each v
unfoldable pub edge_or : ℕ → ℕ → List ℕ → Bool → List ℕ
edge_or n v pixels there = pick there pixels (replicate n v)

-- one pixel, or v where it is absent
unfoldable pub pixel_or : ℕ → ℕ → Bool → ℕ
pixel_or v pixel there = pick there pixel v

unfoldable pub above_or : ℕ → List ℕ → Bool → List ℕ
above_or n above there = edge_or n 127 above there

unfoldable pub left_or : ℕ → List ℕ → Bool → List ℕ
left_or n left there = edge_or n 129 left there

-- ---- one pixel, at row r and column c
unfoldable pub sum_of : List ℕ → ℕ
sum_of [] = 0
sum_of (x ∷ xs) = x + sum_of xs

-- DC: the mean of the edges that are there, rounded; `>> log2 (2 n)` is `/ (2 n)`
unfoldable pub dc_pixel : ℕ → List ℕ → Bool → List ℕ → Bool → ℕ
dc_pixel n above true left true = (sum_of above + sum_of left + n) / (2 * n)
dc_pixel n above true left false = (sum_of above + n / 2) / n
dc_pixel n above false left true = (sum_of left + n / 2) / n
dc_pixel n above false left false = 128

abbrev pub v_pixel : List ℕ → ℕ → ℕ → ℕ
v_pixel above r c = get_or above c 0

abbrev pub h_pixel : List ℕ → ℕ → ℕ → ℕ
h_pixel left r c = get_or left r 0

-- TM: left + above - P, a whole number that may be negative, held within 0 and 255
unfoldable pub tm : ℕ → ℕ → ℕ → ℕ
tm l a p = clamp (pos l +ℤ pos a -ℤ pos p)

abbrev pub tm_pixel : List ℕ → List ℕ → ℕ → ℕ → ℕ → ℕ
tm_pixel above left p r c = tm (get_or left r 0) (get_or above c 0) p

-- ---- the block
unfoldable pub dc_block : ℕ → List ℕ → Bool → List ℕ → Bool → List ℕ
dc_block n above has_above left has_left = rows n n (λ r c. dc_pixel n above has_above left has_left)

unfoldable pub v_block : ℕ → List ℕ → Bool → List ℕ
v_block n above has_above = rows n n (v_pixel (above_or n above has_above))

unfoldable pub h_block : ℕ → List ℕ → Bool → List ℕ
h_block n left has_left = rows n n (h_pixel (left_or n left has_left))

unfoldable pub tm_block : ℕ → List ℕ → Bool → List ℕ → Bool → ℕ → List ℕ
tm_block n above has_above left has_left p = rows n n (tm_pixel (above_or n above has_above) (left_or n left has_left) p)

-- ---- by the mode: 8x8 chroma, and 16x16 luma. B predicts its sub-blocks one by one and has no 16x16 prediction: zero pixels stand for it
unfoldable pub predict_uv : IntraUvMode → List ℕ → Bool → List ℕ → Bool → ℕ → List ℕ
predict_uv uv.Dc above has_above left has_left p = dc_block 8 above has_above left has_left
predict_uv uv.«V» above has_above left has_left p = v_block 8 above has_above
predict_uv uv.H above has_above left has_left p = h_block 8 left has_left
predict_uv uv.Tm above has_above left has_left p = tm_block 8 above has_above left has_left p

unfoldable pub predict_y : IntraYMode → List ℕ → Bool → List ℕ → Bool → ℕ → List ℕ
predict_y y.Dc above has_above left has_left p = dc_block 16 above has_above left has_left
predict_y y.«V» above has_above left has_left p = v_block 16 above has_above
predict_y y.H above has_above left has_left p = h_block 16 left has_left
predict_y y.Tm above has_above left has_left p = tm_block 16 above has_above left has_left p
predict_y y.B above has_above left has_left p = replicate 256 0

abbrev pub is_b : IntraYMode → Bool
is_b y.Dc = false
is_b y.«V» = false
is_b y.H = false
is_b y.Tm = false
is_b y.B = true
