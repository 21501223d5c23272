-- How near a pixel is to the exact one: the words of the 13/8 bound. In whole numbers, scaled by 2^35, of which T, the exact transform, is one.
use Rattle.std.specs.Prelude.{ℕ, ◌+◌, ◌*◌, ◌^◌, ◌<◌, ℤ, pos, ◌+ℤ◌}
use Rattle.whole.specs.Whole.{clamp_to}
use Rattle.rfc6386.specs.Dct.{T}

-- a and b are less than d apart
abbrev pub Within : ℕ → ℕ → ℕ → Type 0
Within d a b = (a < b + d) × (b < a + d)

-- 2^35 times the exact pixel at row r and column c of the block x, over the prediction p: with the exact transform added, held within 0 and 255
abbrev pub exact_pixel : (ℕ → ℤ) → ℕ → ℕ → ℕ → ℕ
exact_pixel x r c p = clamp_to (2 ^ 35 * 255) (pos (2 ^ 35 * p) +ℤ T x r c)
