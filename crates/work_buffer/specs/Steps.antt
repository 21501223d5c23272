-- A step of the code: the first row from the record's row and its three marks.
use Rattle.std.specs.Prelude.{ℕ, Bool, List, ltb, get_or}
use Rattle.lists.specs.Lists.{table, pick}
use Rattle.rfc6386.specs.Edges.{pixel_or}

unfoldable pub first_row : List ℕ → Bool → Bool → Bool → List ℕ
first_row row first above right = table 21 (λ i. pixel_or 127 (get_or row i 0) (pick (ltb i 1) first (pick (ltb i 17) above right)))
