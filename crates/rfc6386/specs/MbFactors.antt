-- RFC 6386, 14.1 and 20.4: the factors of Y2 and of chroma, and the blocks of a macroblock dequantised. Y1's factors are those of the tables.
use Rattle.std.specs.Prelude.{ℕ, ◌+◌, ◌*◌, ◌/◌, min, max, List, eqb, ltb, ℤ, pos, get_or}
use Rattle.lists.specs.Lists.{rows, pick}
use Rattle.rfc6386.specs.Quantiser.{dc_lookup, ac_lookup, clamp_index, dequant}

-- the tables at an index
unfoldable pub dc_entry : ℤ → ℕ
dc_entry q = get_or dc_lookup (clamp_index q) 0

unfoldable pub ac_entry : ℤ → ℕ
ac_entry q = get_or ac_lookup (clamp_index q) 0

-- Y2 DC: twice the DC table's
unfoldable pub y2_dc_factor : ℤ → ℤ
y2_dc_factor q = pos (dc_entry q * 2)

-- Y2 AC: 155/100 of the AC table's, rounded down, and at least 8
unfoldable pub y2_ac_factor : ℤ → ℤ
y2_ac_factor q = pos (max (ac_entry q * 155 / 100) 8)

-- chroma DC: the DC table's, and at most 132
unfoldable pub uv_dc_factor : ℤ → ℤ
uv_dc_factor q = pos (min (dc_entry q) 132)

-- The 25 blocks of a macroblock's 400 coefficients: block 0 is Y2's, blocks 1 to 16 are Y's, 17 to 20 U's, 21 to 24 V's.
unfoldable pub of_block : ℕ → ℤ → ℤ → ℤ → ℤ
of_block k y2 y1 uv = pick (eqb k 0) y2 (pick (ltb k 17) y1 uv)

-- n blocks of 16, one behind another: the first coefficient of block k by the DC factor dc k, the others by the AC factor ac k
unfoldable pub blocks_dequantised : ℕ → (ℕ → ℤ) → (ℕ → ℤ) → List ℤ → List ℤ
blocks_dequantised n dc ac l = rows 16 n (λ k i. dequant (get_or l (k * 16 + i) (pos 0)) (pick (eqb i 0) (dc k) (ac k)))
