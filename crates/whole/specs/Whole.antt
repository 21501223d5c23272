-- Whole numbers as the machine keeps them: a value modulo a power of two, read as signed, and a value held within bounds.
-- `lib.Signed.shr_z z m` is z / m rounded down, which is what `>>` means throughout.
use Rattle.std.specs.Prelude.{ℕ, suc, ◌+◌, ◌-◌, ◌%◌, min, cond, ltb, ℤ, pos, negsuc}

-- what is left of z when multiples of m are taken away: from 0 to m - 1
abbrev pub mod_z : ℤ → ℕ → ℕ
mod_z (pos a) m = a % m
mod_z (negsuc a) m = m - suc (a % m)

-- n, from 0 to 2 h - 1, read as a signed number from -h to h - 1
abbrev pub signed : ℕ → ℕ → ℤ
signed h n = cond (ltb n h) (pos n) (negsuc (h + h - suc n))

-- z modulo 2^32, read as signed 32 bits
unfoldable pub wrap : ℤ → ℤ
wrap z = signed 2147483648 (mod_z z 4294967296)

-- z modulo 2^16, read as signed 16 bits
unfoldable pub narrow : ℤ → ℤ
narrow z = signed 32768 (mod_z z 65536)

-- z held within 0 and m
unfoldable pub clamp_to : ℕ → ℤ → ℕ
clamp_to m (pos n) = min n m
clamp_to m (negsuc n) = 0

-- z held within 0 and 255: RFC 6386, 14.5
abbrev pub clamp : ℤ → ℕ
clamp z = clamp_to 255 z
