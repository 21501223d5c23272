-- Each promise of `mb_factors` admits one answer only. Assumes nothing.
use mathlib.Core.Path.{◌≡◌, refl}
use Rattle.std.specs.Prelude.{Result}
use Rattle.lists.proofs.Answer.{OneAnswer, same}
use Rattle.macroblock.specs.declared.reply.Refusal.{Refusal}
use Rattle.mb_factors.specs.declared.MbDequantFactors.{MbDequantFactors}
use Rattle.macroblock.proofs.Refusals.{one_answer}
use Rattle.mb_factors.specs.Factors.{no_factors, told}
use Rattle.mb_factors.proofs.MbDequantFactors.from_base_and_deltas.Reads as from-base-and-deltas
use Rattle.mb_factors.proofs.MbDequantFactors.from_base_and_deltas.Kinds as from-base-and-deltas-k

-- what is told of an answer tells the answer
pub told-one : (x y : Result MbDequantFactors Refusal) → told x ≡ told y → x ≡ y
unfolding no_factors
told-one =
    one_answer told (λ w. w.reply)
    (λ w. record { y1_dc = w.y1_dc; y1_ac = w.y1_ac; y2_dc = w.y2_dc; y2_ac = w.y2_ac; uv_dc = w.uv_dc; uv_ac = w.uv_ac }) (λ f. refl) (λ f. refl)
    (λ e. refl)

pub from-base-and-deltas-one : OneAnswer 0 from-base-and-deltas-k.ps from-base-and-deltas-k.r from-base-and-deltas.Post
from-base-and-deltas-one κs a x y s t p q = told-one x y (same p q)
