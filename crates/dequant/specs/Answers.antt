-- A macroblock's factors and its 400 coefficients dequantised: Y2 16, Y 256, U 64, V 64. One definition yields the answer and what the slice holds.
use Rattle.std.specs.Prelude.{ℕ, List, eqb, ℤ, length}
use Rattle.lists.specs.Lists.{pick}
use Rattle.macroblock.specs.Reply.{wrong_length, index_sum}
use Rattle.rfc6386.specs.MbFactors.{of_block, blocks_dequantised}
use Rattle.mb_factors.specs.Factors.{FactorsAnswer, sums_fit, factors_given, no_factors}

-- the factors of block k
unfoldable pub dc_of : FactorsAnswer → ℕ → ℤ
dc_of f k = of_block k f.y2_dc f.y1_dc f.uv_dc

unfoldable pub ac_of : FactorsAnswer → ℕ → ℤ
ac_of f k = of_block k f.y2_ac f.y1_ac f.uv_ac

unfoldable pub mb_dequantised : FactorsAnswer → List ℤ → List ℤ
mb_dequantised f l = blocks_dequantised 25 (dc_of f) (ac_of f) l

-- `dequantise`: 5 where a sum is outside signed 32 bits, then 1 for a slice that is not 400; then all six factors are 0 and the slice stays
unfoldable pub dequantise_answer : ℤ → ℤ → ℤ → ℤ → ℤ → ℤ → List ℤ → FactorsAnswer × List ℤ
dequantise_answer q ydc y2dc y2ac uvdc uvac l =
    let f = factors_given q ydc y2dc y2ac uvdc uvac in
    pick (sums_fit q ydc y2dc y2ac uvdc uvac) (pick (eqb (length l) 400) (f, mb_dequantised f l) (no_factors wrong_length, l)) (no_factors index_sum, l)
