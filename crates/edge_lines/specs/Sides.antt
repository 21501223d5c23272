-- A macroblock's edges in one direction, where it lies in its plane.
use Rattle.std.specs.Prelude.{ℕ, ◌+◌, ◌-◌, ◌*◌, ◌<◌, ◌≤◌, Bool, List, leb, ltb, length}
use Rattle.lists.specs.Lists.{pick, both}
use Rattle.macroblock.specs.declared.filter.Rule.{Rule}
use Rattle.rfc6386.specs.LoopFilter.{side, corner}
use Rattle.edge_lines.specs.Lines.{Fits}
use Rattle.edge_lines.specs.declared.direction.Direction.{Direction}
use Rattle.edge_lines.specs.declared.direction.Direction.TheVariants.{Upright, Level}

-- the distance from a pixel to the next across an edge of a direction, and along it
abbrev pub across : Direction → ℕ → ℕ
across Upright stride = 1
across Level stride = stride

abbrev pub along : Direction → ℕ → ℕ
along Upright stride = stride
along Level stride = 1

-- the picture goes on beyond the own edge of macroblock c of row r
abbrev pub beyond : Direction → ℕ → ℕ → Bool
beyond Upright r c = ltb 0 c
beyond Level r c = ltb 0 r

-- the window of an edge of n pixels: eight columns about an upright one, eight rows about a level one
abbrev pub window_width : Direction → ℕ → ℕ
window_width Upright n = 8
window_width Level n = n

abbrev pub window_height : Direction → ℕ → ℕ
window_height Upright n = n
window_height Level n = 8

-- the window of an edge from `at` on lies in the plane, and its rows do not meet
pub record Room (direction : Direction) (n at stride : ℕ) (b : List ℕ) : Type 0 where
  pub low : 4 * across direction stride ≤ at
  pub wide : n ≤ stride
  pub window : Fits (window_width direction n) (window_height direction n) (at - 4 * across direction stride) stride b

-- a square of n by n pixels lies in the plane, and its rows do not meet
pub record Square (b : List ℕ) (n at stride : ℕ) : Type 0 where
  pub wide : n ≤ stride
  pub inside : (k : ℕ) → k < n → at + k * stride + n ≤ length b

-- macroblock c of row r, of n pixels a side, lies in a plane of `size` bytes with `cols` macroblocks a row, no more than 1,024 in either direction
unfoldable pub seated : ℕ → ℕ → ℕ → ℕ → ℕ → Bool
seated n size cols r c = both (leb cols 1024) (both (ltb r 1024) (both (ltb c cols) (leb ((r + 1) * n * (n * cols)) size)))

-- its upright edges, and its level ones; nothing where it does not lie there
unfoldable pub upright_at : Rule → ℕ → ℕ → ℕ → ℕ → Bool → List ℕ → List ℕ
upright_at rule n cols r c inner b =
    pick (seated n (length b) cols r c) (side rule n (corner n cols r c) 1 (n * cols) (ltb 0 c) inner b) b

unfoldable pub level_at : Rule → ℕ → ℕ → ℕ → ℕ → Bool → List ℕ → List ℕ
level_at rule n cols r c inner b =
    pick (seated n (length b) cols r c) (side rule n (corner n cols r c) (n * cols) 1 (ltb 0 r) inner b) b

abbrev pub side_at : Direction → Rule → ℕ → ℕ → ℕ → ℕ → Bool → List ℕ → List ℕ
side_at Upright = upright_at
side_at Level = level_at

-- the same in U and V, where it lies in both
abbrev pub both_seated : ℕ → ℕ → ℕ → List ℕ → List ℕ → Bool
both_seated cols r c u v = both (seated 8 (length u) cols r c) (seated 8 (length v) cols r c)

unfoldable pub upright_pair : Rule → ℕ → ℕ → ℕ → Bool → List ℕ → List ℕ → List ℕ × List ℕ
upright_pair rule cols r c inner u v =
    let f : List ℕ → List ℕ = side rule 8 (corner 8 cols r c) 1 (8 * cols) (ltb 0 c) inner in
    pick (both_seated cols r c u v) (f u, f v) (u, v)

unfoldable pub level_pair : Rule → ℕ → ℕ → ℕ → Bool → List ℕ → List ℕ → List ℕ × List ℕ
level_pair rule cols r c inner u v =
    let f : List ℕ → List ℕ = side rule 8 (corner 8 cols r c) (8 * cols) 1 (ltb 0 r) inner in
    pick (both_seated cols r c u v) (f u, f v) (u, v)

abbrev pub side_pair : Direction → Rule → ℕ → ℕ → ℕ → Bool → List ℕ → List ℕ → List ℕ × List ℕ
side_pair Upright = upright_pair
side_pair Level = level_pair
