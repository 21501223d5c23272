-- The two sums over the odd numbers of a line, and the four results of a pass as a list.
use Rattle.std.specs.Prelude.{List, [], ◌∷◌, map, ℤ, ◌+ℤ◌, ◌-ℤ◌}
use Rattle.whole.specs.Whole.{wrap}
use Rattle.rfc6386.specs.Dct.{by_sin, by_cos, pass, wrapped, rounded}

unfoldable pub odd_difference : ℤ → ℤ → ℤ
odd_difference i4 i12 = wrap (by_sin i4 -ℤ by_cos i12)

unfoldable pub odd_sum : ℤ → ℤ → ℤ
odd_sum i4 i12 = wrap (by_cos i4 +ℤ by_sin i12)

-- the four results of a pass
unfoldable pub line_of : ℤ → ℤ → ℤ → ℤ → List ℤ
line_of i0 i4 i8 i12 =
    pass wrapped 0 i0 i4 i8 i12 ∷ pass wrapped 1 i0 i4 i8 i12 ∷ pass wrapped 2 i0 i4 i8 i12 ∷ pass wrapped 3 i0 i4 i8 i12 ∷ []

-- the same, each with the closing rounding
unfoldable pub row_of : ℤ → ℤ → ℤ → ℤ → List ℤ
row_of i0 i1 i2 i3 = map rounded (line_of i0 i1 i2 i3)
