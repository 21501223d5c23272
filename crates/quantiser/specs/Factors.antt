-- The factors of a luma block that has its own DC, with the reply: where the sum of the indices is outside signed 32 bits, both factors are 0.
use Rattle.std.specs.Prelude.{ℕ, Bool, ℤ, pos, neg_ℤ, ◌+ℤ◌, Result, Ok, Err}
use Rattle.std.specs.Int.Signed.{le_z, lt_z}
use Rattle.lists.specs.Lists.{pick, both}
use Rattle.macroblock.specs.Reply.{done, index_sum, number}
use Rattle.macroblock.specs.declared.reply.Refusal.{Refusal}
use Rattle.macroblock.specs.declared.reply.Refusal.TheVariants as refusal
use Rattle.rfc6386.specs.Quantiser.{dc_factor, ac_factor}
use Rattle.quantiser.specs.declared.Y1DequantFactors.{Y1DequantFactors}

-- from -2^31 to 2^31 - 1
unfoldable pub signed32 : ℤ → Bool
signed32 z = both (le_z (neg_ℤ (pos 2147483648)) z) (lt_z z (pos 2147483648))

unfoldable pub with_delta : ℤ → ℤ → Result ℤ Refusal
with_delta index delta = pick (signed32 (index +ℤ delta)) (Ok (index +ℤ delta)) (Err refusal.IndexSum)

pub record Y1Answer : Type 0 where
  pub reply : ℕ
  pub dc : ℤ
  pub ac : ℤ

unfoldable pub y1_factors : ℤ → ℤ → Y1Answer
y1_factors yac ydc =
    pick (signed32 (yac +ℤ ydc)) (record { reply = done; dc = dc_factor (yac +ℤ ydc); ac = ac_factor yac })
    (record { reply = index_sum; dc = pos 0; ac = pos 0 })

-- what an answer says
abbrev pub told : Result Y1DequantFactors Refusal → Y1Answer
told (Ok f) = record { reply = done; dc = f.dc; ac = f.ac }
told (Err e) = record { reply = number e; dc = pos 0; ac = pos 0 }
