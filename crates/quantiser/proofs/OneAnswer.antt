-- Each promise of `quantiser` admits one answer only. Assumes nothing.
use mathlib.Core.Path.{refl}
use Rattle.lists.proofs.Answer.{OneAnswer, same}
use Rattle.macroblock.proofs.Refusals.{one_answer}
use Rattle.quantiser.specs.Factors.{told}
use Rattle.quantiser.proofs.clamp_qindex.Reads as clamp-qindex
use Rattle.quantiser.proofs.clamp_qindex.Kinds as clamp-qindex-k
use Rattle.quantiser.proofs.Y1DequantFactors.from_indices.Reads as from-indices
use Rattle.quantiser.proofs.Y1DequantFactors.from_indices.Kinds as from-indices-k
use Rattle.quantiser.proofs.with_delta.Reads as with-delta
use Rattle.quantiser.proofs.with_delta.Kinds as with-delta-k
use Rattle.quantiser.proofs.dequant_block.Reads as dequant-block
use Rattle.quantiser.proofs.dequant_block.Kinds as dequant-block-k
use Rattle.quantiser.proofs.signed32.Reads as signed32
use Rattle.quantiser.proofs.signed32.Kinds as signed32-k
use Rattle.quantiser.proofs.dequant.Reads as dequant
use Rattle.quantiser.proofs.dequant.Kinds as dequant-k

pub clamp-qindex-one : OneAnswer 0 clamp-qindex-k.ps clamp-qindex-k.r clamp-qindex.Post
clamp-qindex-one κs a x y s t = same

pub from-indices-one : OneAnswer 0 from-indices-k.ps from-indices-k.r from-indices.Post
from-indices-one κs a x y s t p q = one_answer told (λ w. w.reply) (λ w. record { dc = w.dc; ac = w.ac }) (λ f. refl) (λ f. refl) (λ e. refl) x y (same p q)

pub with-delta-one : OneAnswer 0 with-delta-k.ps with-delta-k.r with-delta.Post
with-delta-one κs a x y s t = same

pub dequant-block-one : OneAnswer 0 dequant-block-k.ps dequant-block-k.r dequant-block.Post
dequant-block-one κs a x y s t = same

pub signed32-one : OneAnswer 0 signed32-k.ps signed32-k.r signed32.Post
signed32-one κs a x y s t = same

pub dequant-one : OneAnswer 0 dequant-k.ps dequant-k.r dequant.Post
dequant-one κs a x y s t = same
