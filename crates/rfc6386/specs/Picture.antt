-- RFC 6386, 12.2 and 12.3: where the neighbours of a macroblock stand in a picture of finished planes, w macroblocks wide and h high.
-- A plane has n pixels a side for each macroblock (16 for Y, 8 for U and V) and n w pixels a row, unpadded.
use Rattle.std.specs.Prelude.{ℕ, ◌+◌, ◌-◌, ◌*◌, Bool, List, [], leb, ltb, eqb, get_or, length, take, drop, replicate}
use Rattle.lists.specs.Lists.{table, pick, both}
use Rattle.macroblock.specs.declared.neighbors.LumaEdges.{LumaEdges}
use Rattle.macroblock.specs.declared.neighbors.ChromaEdges.{ChromaEdges}
use Rattle.macroblock.specs.declared.neighbors.MbNeighbors.{MbNeighbors}

-- ---- a row's part of a plane: given where count ≥ 1, column + count ≤ stride and row * stride + column + count ≤ size,
-- in whole numbers without bound; else the empty part
unfoldable pub given : ℕ → ℕ → ℕ → ℕ → ℕ → Bool
given size stride row col count =
    both (leb 1 count) (both (leb (col + count) stride) (leb (row * stride + col + count) size))

unfoldable pub row_part : List ℕ → ℕ → ℕ → ℕ → ℕ → List ℕ
row_part l stride row col count =
    pick (given (length l) stride row col count) (take count (drop (row * stride + col) l)) []

-- ---- the edges of the macroblock in column c and row r. In the first row nothing stands above, in the first column nothing to the left:
-- such a part is absent and its bytes are 0. Below the first row all of the row above is there
abbrev pub has_above : ℕ → ℕ → Bool
has_above c r = ltb 0 r

abbrev pub has_left : ℕ → ℕ → Bool
has_left c r = ltb 0 c

-- pixel x of a row of the plane, counted from the border on: the reference decoder's frame has a border of 129 left of the picture; then the
-- row's own pixels; those right of the picture are given
unfoldable pub pixel_of : List ℕ → ℕ → ℕ → List ℕ → ℕ → ℕ
pixel_of l stride row right x =
    pick (ltb x 1) 129 (pick (leb x stride) (get_or l (row * stride + (x - 1)) 0) (get_or right (x - stride - 1) 0))

-- m pixels of row n r - 1, from the one before column n c on: 1 + 16 + 4 of luma, 1 + 8 of chroma
unfoldable pub row_above : ℕ → ℕ → List ℕ → ℕ → ℕ → ℕ → List ℕ → List ℕ
row_above n m l w c r right = pick (has_above c r) (table m (λ i. pixel_of l (n * w) (n * r - 1) right (n * c + i))) (replicate m 0)

-- the n pixels of column n c - 1 from row n r on
unfoldable pub left_of : ℕ → List ℕ → ℕ → ℕ → ℕ → List ℕ
left_of n l w c r =
    pick (has_left c r) (table n (λ i. get_or l (n * r * (n * w) + (n * c - 1) + i * (n * w)) 0)) (replicate n 0)

-- ---- the record. `right` is the four luma pixels right of the picture: they are read in the last column below the first row alone
unfoldable pub luma_beside : List ℕ → ℕ → ℕ → ℕ → List ℕ → LumaEdges
luma_beside l w c r right =
    record {
      row = row_above 16 21 l w c r right;
      topleft_there = has_above c r;
      above_there = has_above c r;
      above_right_there = has_above c r;
      left = left_of 16 l w c r;
      left_there = has_left c r;
    }

unfoldable pub chroma_beside : List ℕ → ℕ → ℕ → ℕ → ChromaEdges
chroma_beside l w c r =
    record {
      row = row_above 8 9 l w c r [];
      topleft_there = has_above c r;
      above_there = has_above c r;
      left = left_of 8 l w c r;
      left_there = has_left c r;
    }

unfoldable pub neighbors_of : List ℕ → List ℕ → List ℕ → ℕ → ℕ → ℕ → List ℕ → MbNeighbors
neighbors_of y u v w c r right = record { y = luma_beside y w c r right; u = chroma_beside u w c r; v = chroma_beside v w c r }

-- ---- the limits: each side 1 to 1,024, the place inside; the planes exactly 256, 64 and 64 bytes a macroblock
unfoldable pub place_ok : ℕ → ℕ → ℕ → ℕ → Bool
place_ok w h c r = both (leb w 1024) (both (leb h 1024) (both (ltb c w) (ltb r h)))

unfoldable pub size_ok : ℕ → ℕ → Bool
size_ok w h = place_ok w h 0 0

abbrev pub luma_ok : ℕ → ℕ → ℕ → Bool
luma_ok y w h = eqb y (256 * (w * h))

unfoldable pub sizes_ok : ℕ → ℕ → ℕ → ℕ → ℕ → Bool
sizes_ok y u v w h = both (luma_ok y w h) (both (eqb u (64 * (w * h))) (eqb v (64 * (w * h))))
