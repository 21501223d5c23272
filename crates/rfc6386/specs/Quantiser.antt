-- RFC 6386, 9.6 and 14.1: quantiser indices, the factors they stand for, and dequantising.
use Rattle.std.specs.Prelude.{ℕ, List, [], ◌∷◌, map, ℤ, pos, ◌*ℤ◌, get_or}
use Rattle.whole.specs.Whole.{narrow, clamp_to}

-- 14.1: dc_qlookup and ac_qlookup
unfoldable pub dc_lookup : List ℕ
dc_lookup =
    4 ∷ 5 ∷ 6 ∷ 7 ∷ 8 ∷ 9 ∷ 10 ∷ 10 ∷ 11 ∷ 12 ∷ 13 ∷ 14 ∷ 15 ∷ 16 ∷ 17 ∷ 17 ∷
    18 ∷ 19 ∷ 20 ∷ 20 ∷ 21 ∷ 21 ∷ 22 ∷ 22 ∷ 23 ∷ 23 ∷ 24 ∷ 25 ∷ 25 ∷ 26 ∷ 27 ∷ 28 ∷
    29 ∷ 30 ∷ 31 ∷ 32 ∷ 33 ∷ 34 ∷ 35 ∷ 36 ∷ 37 ∷ 37 ∷ 38 ∷ 39 ∷ 40 ∷ 41 ∷ 42 ∷ 43 ∷
    44 ∷ 45 ∷ 46 ∷ 46 ∷ 47 ∷ 48 ∷ 49 ∷ 50 ∷ 51 ∷ 52 ∷ 53 ∷ 54 ∷ 55 ∷ 56 ∷ 57 ∷ 58 ∷
    59 ∷ 60 ∷ 61 ∷ 62 ∷ 63 ∷ 64 ∷ 65 ∷ 66 ∷ 67 ∷ 68 ∷ 69 ∷ 70 ∷ 71 ∷ 72 ∷ 73 ∷ 74 ∷
    75 ∷ 76 ∷ 76 ∷ 77 ∷ 78 ∷ 79 ∷ 80 ∷ 81 ∷ 82 ∷ 83 ∷ 84 ∷ 85 ∷ 86 ∷ 87 ∷ 88 ∷ 89 ∷
    91 ∷ 93 ∷ 95 ∷ 96 ∷ 98 ∷ 100 ∷ 101 ∷ 102 ∷ 104 ∷ 106 ∷ 108 ∷ 110 ∷ 112 ∷ 114 ∷ 116 ∷ 118 ∷
    122 ∷ 124 ∷ 126 ∷ 128 ∷ 130 ∷ 132 ∷ 134 ∷ 136 ∷ 138 ∷ 140 ∷ 143 ∷ 145 ∷ 148 ∷ 151 ∷ 154 ∷ 157 ∷ []

unfoldable pub ac_lookup : List ℕ
ac_lookup =
    4 ∷ 5 ∷ 6 ∷ 7 ∷ 8 ∷ 9 ∷ 10 ∷ 11 ∷ 12 ∷ 13 ∷ 14 ∷ 15 ∷ 16 ∷ 17 ∷ 18 ∷ 19 ∷
    20 ∷ 21 ∷ 22 ∷ 23 ∷ 24 ∷ 25 ∷ 26 ∷ 27 ∷ 28 ∷ 29 ∷ 30 ∷ 31 ∷ 32 ∷ 33 ∷ 34 ∷ 35 ∷
    36 ∷ 37 ∷ 38 ∷ 39 ∷ 40 ∷ 41 ∷ 42 ∷ 43 ∷ 44 ∷ 45 ∷ 46 ∷ 47 ∷ 48 ∷ 49 ∷ 50 ∷ 51 ∷
    52 ∷ 53 ∷ 54 ∷ 55 ∷ 56 ∷ 57 ∷ 58 ∷ 60 ∷ 62 ∷ 64 ∷ 66 ∷ 68 ∷ 70 ∷ 72 ∷ 74 ∷ 76 ∷
    78 ∷ 80 ∷ 82 ∷ 84 ∷ 86 ∷ 88 ∷ 90 ∷ 92 ∷ 94 ∷ 96 ∷ 98 ∷ 100 ∷ 102 ∷ 104 ∷ 106 ∷ 108 ∷
    110 ∷ 112 ∷ 114 ∷ 116 ∷ 119 ∷ 122 ∷ 125 ∷ 128 ∷ 131 ∷ 134 ∷ 137 ∷ 140 ∷ 143 ∷ 146 ∷ 149 ∷ 152 ∷
    155 ∷ 158 ∷ 161 ∷ 164 ∷ 167 ∷ 170 ∷ 173 ∷ 177 ∷ 181 ∷ 185 ∷ 189 ∷ 193 ∷ 197 ∷ 201 ∷ 205 ∷ 209 ∷
    213 ∷ 217 ∷ 221 ∷ 225 ∷ 229 ∷ 234 ∷ 239 ∷ 245 ∷ 249 ∷ 254 ∷ 259 ∷ 264 ∷ 269 ∷ 274 ∷ 279 ∷ 284 ∷ []

-- 9.6: an index, with its delta, is held within 0 and 127
unfoldable pub clamp_index : ℤ → ℕ
clamp_index q = clamp_to 127 q

-- 14.1: the factors of an index
unfoldable pub dc_factor : ℤ → ℤ
dc_factor q = pos (get_or dc_lookup (clamp_index q) 0)

unfoldable pub ac_factor : ℤ → ℤ
ac_factor q = pos (get_or ac_lookup (clamp_index q) 0)

-- 14.1: a coefficient by its factor, computed and stored in 16 bits
unfoldable pub dequant : ℤ → ℤ → ℤ
dequant x factor = narrow (x *ℤ factor)

-- 14.1: a block: its first coefficient by the DC factor, the others by the AC factor
unfoldable pub dequantised : List ℤ → ℤ → ℤ → List ℤ
dequantised [] dc ac = []
dequantised (x ∷ xs) dc ac = dequant x dc ∷ map (λ (y : ℤ). dequant y ac) xs
