-- A block of n rows of n pixels put at its place in a plane: column c and row r, counted in macroblocks, of a picture w macroblocks wide. A row of the
-- plane has n w pixels.
use Rattle.std.specs.Prelude.{ℕ, ◌+◌, ◌*◌, List, get_or}
use Rattle.lists.specs.Lists.{turns, store}

-- the place of pixel x of the block's row i
unfoldable pub pixel_at : ℕ → ℕ → ℕ → ℕ → ℕ → ℕ → ℕ
pixel_at n w c r i x = n * r * (n * w) + i * (n * w) + n * c + x

unfoldable pub placed_row : ℕ → ℕ → ℕ → ℕ → List ℕ → ℕ → List ℕ → List ℕ
placed_row n w c r block i plane = turns n (store (λ x. pixel_at n w c r i x) (λ x. get_or block (n * i + x) 0)) plane

unfoldable pub placed : ℕ → ℕ → ℕ → ℕ → List ℕ → List ℕ → List ℕ
placed n w c r block plane = turns n (placed_row n w c r block) plane
