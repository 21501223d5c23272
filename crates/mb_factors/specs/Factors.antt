-- The six factors of a macroblock from a base index and five deltas, with the reply: where a sum of the index and a delta is outside signed
-- 32 bits, in whole numbers without bound, all six are 0.
use Rattle.std.specs.Prelude.{ℕ, Bool, ℤ, pos, ◌+ℤ◌, Result, Ok, Err}
use Rattle.lists.specs.Lists.{pick, both}
use Rattle.macroblock.specs.Reply.{done, index_sum, number}
use Rattle.macroblock.specs.declared.reply.Refusal.{Refusal}
use Rattle.rfc6386.specs.Quantiser.{dc_factor, ac_factor}
use Rattle.rfc6386.specs.MbFactors.{y2_dc_factor, y2_ac_factor, uv_dc_factor}
use Rattle.quantiser.specs.Factors.{signed32}
use Rattle.mb_factors.specs.declared.MbDequantFactors.{MbDequantFactors}

-- each of the five sums is within signed 32 bits
unfoldable pub sums_fit : ℤ → ℤ → ℤ → ℤ → ℤ → ℤ → Bool
sums_fit q ydc y2dc y2ac uvdc uvac =
    both (signed32 (q +ℤ ydc)) (both (signed32 (q +ℤ y2dc)) (both (signed32 (q +ℤ y2ac)) (both (signed32 (q +ℤ uvdc)) (signed32 (q +ℤ uvac)))))

pub record FactorsAnswer : Type 0 where
  pub reply : ℕ
  pub y1_dc : ℤ
  pub y1_ac : ℤ
  pub y2_dc : ℤ
  pub y2_ac : ℤ
  pub uv_dc : ℤ
  pub uv_ac : ℤ

-- each delta is added to the index as given; Y1 AC has none
unfoldable pub factors_given : ℤ → ℤ → ℤ → ℤ → ℤ → ℤ → FactorsAnswer
factors_given q ydc y2dc y2ac uvdc uvac =
    record {
      reply = done;
      y1_dc = dc_factor (q +ℤ ydc);
      y1_ac = ac_factor q;
      y2_dc = y2_dc_factor (q +ℤ y2dc);
      y2_ac = y2_ac_factor (q +ℤ y2ac);
      uv_dc = uv_dc_factor (q +ℤ uvdc);
      uv_ac = ac_factor (q +ℤ uvac);
    }

-- a refusal: its number, and six factors that are 0
unfoldable pub no_factors : ℕ → FactorsAnswer
no_factors number = record { reply = number; y1_dc = pos 0; y1_ac = pos 0; y2_dc = pos 0; y2_ac = pos 0; uv_dc = pos 0; uv_ac = pos 0 }

unfoldable pub mb_factors : ℤ → ℤ → ℤ → ℤ → ℤ → ℤ → FactorsAnswer
mb_factors q ydc y2dc y2ac uvdc uvac =
    pick (sums_fit q ydc y2dc y2ac uvdc uvac) (factors_given q ydc y2dc y2ac uvdc uvac) (no_factors index_sum)

-- what an answer says
abbrev pub of_factors : MbDequantFactors → FactorsAnswer
of_factors f = record { reply = done; y1_dc = f.y1_dc; y1_ac = f.y1_ac; y2_dc = f.y2_dc; y2_ac = f.y2_ac; uv_dc = f.uv_dc; uv_ac = f.uv_ac }

abbrev pub told : Result MbDequantFactors Refusal → FactorsAnswer
told (Ok f) = of_factors f
told (Err e) = no_factors (number e)

-- the factors of six indices
unfoldable pub factors_at : ℤ → ℤ → ℤ → ℤ → ℤ → ℤ → MbDequantFactors
factors_at y1dc y1ac y2dc y2ac uvdc uvac =
    record {
      y1_dc = dc_factor y1dc;
      y1_ac = ac_factor y1ac;
      y2_dc = y2_dc_factor y2dc;
      y2_ac = y2_ac_factor y2ac;
      uv_dc = uv_dc_factor uvdc;
      uv_ac = ac_factor uvac;
    }
