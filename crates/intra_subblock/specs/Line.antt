-- A line of means along an edge, and a sub-block drawn from a line.
use Rattle.std.specs.Prelude.{ℕ, ◌+◌, ◌*◌, ◌<◌, List, [], ◌∷◌, get_or}
use Rattle.rfc6386.specs.Subblock.{avg2_at, avg3_at}

-- avg2 and avg3 in turn from the edge's start, and two values more
abbrev pub steps_line : List ℕ → ℕ → ℕ → List ℕ
steps_line e next last =
    avg2_at e 0 ∷ avg3_at e 1 ∷ avg2_at e 1 ∷ avg3_at e 2 ∷ avg2_at e 2 ∷ avg3_at e 3 ∷ avg2_at e 3 ∷ avg3_at e 4 ∷ next ∷ last ∷ []

-- at row r and column c: the value c steps after the row's start
abbrev pub line_pixel : List ℕ → List ℕ → ℕ → ℕ → ℕ → ℕ
line_pixel line starts step r c = get_or line (get_or starts r 0 + c * step) 0

-- the last value of each row is on a line of n
abbrev pub OnLine : List ℕ → ℕ → ℕ → Type 0
OnLine starts step n =
    (get_or starts 0 0 + 3 * step < n) × (get_or starts 1 0 + 3 * step < n) × (get_or starts 2 0 + 3 * step < n) × (get_or starts 3 0 + 3 * step < n)
