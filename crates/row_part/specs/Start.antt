-- Where the part that `row_part` hands back lies.
use Rattle.std.specs.Prelude.{ℕ, ◌+◌, ◌*◌}
use Rattle.lists.specs.Lists.{pick}
use Rattle.rfc6386.specs.Picture.{given}

-- A row's part lies in the plane's own memory: from its first pixel on where it is given, else at the plane's start. A place in memory is
-- a block and an offset in it; the last argument is where the plane begins.
unfoldable pub part_start : ℕ → ℕ → ℕ → ℕ → ℕ → ℕ × ℕ → ℕ × ℕ
part_start size stride row col count start = (start.0, pick (given size stride row col count) (row * stride + col) 0 + start.1)
