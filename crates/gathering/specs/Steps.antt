-- A name for a step of gathering.
use Rattle.std.specs.Prelude.{ℕ, ◌-◌, List, ltb, leb, get_or, length}
use Rattle.lists.specs.Lists.{pick}

-- pixel x of a row of the picture, the row by itself
unfoldable pub pixel_in : List ℕ → List ℕ → ℕ → ℕ
pixel_in row right x = pick (ltb x 1) 129 (pick (leb x (length row)) (get_or row (x - 1) 0) (get_or right (x - length row - 1) 0))
