-- RFC 6386, 14.3: the inverse Walsh-Hadamard transform of the Y2 block. Columns first, then rows, then (x + 3) >> 3.
-- No sum needs more than 32 bits, so the sums stand here as whole numbers; the result is kept in 16 bits.
use Rattle.std.specs.Prelude.{ℕ, zero, suc, ◌+◌, List, ℤ, pos, ◌+ℤ◌, ◌-ℤ◌, get_or, replicate}
use Rattle.std.specs.Int.Signed.{shr_z}
use Rattle.whole.specs.Whole.{narrow}
use Rattle.lists.specs.Lists.{rows}

-- a = i0 + i12, b = i4 + i8, c = i4 - i8, d = i0 - i12; result k of a pass: a + b, c + d, a - b, d - c
unfoldable pub wht_pass : ℕ → ℤ → ℤ → ℤ → ℤ → ℤ
wht_pass zero i0 i4 i8 i12 = (i0 +ℤ i12) +ℤ (i4 +ℤ i8)
wht_pass (suc zero) i0 i4 i8 i12 = (i4 -ℤ i8) +ℤ (i0 -ℤ i12)
wht_pass (suc (suc zero)) i0 i4 i8 i12 = (i0 +ℤ i12) -ℤ (i4 +ℤ i8)
wht_pass (suc (suc (suc k))) i0 i4 i8 i12 = (i0 -ℤ i12) -ℤ (i4 -ℤ i8)

-- the column pass on the block x, whose coefficient at row r and column c is x (4 r + c)
unfoldable pub wht_column : (ℕ → ℤ) → ℕ → ℕ → ℤ
wht_column x r c = wht_pass r (x c) (x (4 + c)) (x (8 + c)) (x (12 + c))

-- the closing rounding
unfoldable pub wht_round : ℤ → ℤ
wht_round z = narrow (shr_z (z +ℤ pos 3) 8)

-- the row pass, rounded
unfoldable pub wht_at : (ℕ → ℤ) → ℕ → ℕ → ℤ
wht_at x r c = wht_round (wht_pass c (wht_column x r 0) (wht_column x r 1) (wht_column x r 2) (wht_column x r 3))

unfoldable pub iwht : List ℤ → List ℤ
iwht l = rows 4 4 (wht_at (λ k. get_or l k (pos 0)))

-- a block whose only coefficient that is not 0 is its first
unfoldable pub iwht_dc : ℤ → List ℤ
iwht_dc dc = replicate 16 (wht_round dc)
