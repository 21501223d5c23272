-- A macroblock's place in a plane.
use Rattle.std.specs.Prelude.{ℕ, ◌+◌, ◌*◌, ◌<◌, ◌≤◌, List, length}

-- a macroblock of n pixels a side lies in the plane l, whose rows have n w pixels, in column c and row r, counted in macroblocks
pub record Placed (n : ℕ) (l : List ℕ) (w c r : ℕ) : Type 0 where
  pub some : 1 ≤ n
  pub across : c < w
  pub down : (n * r + n) * (n * w) ≤ length l
