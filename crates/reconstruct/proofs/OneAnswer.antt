-- Each promise of `reconstruct` admits one answer only. Assumes nothing.
use mathlib.Core.Path.{◌≡◌, refl}
use Rattle.std.specs.Prelude.{Result}
use Rattle.lists.proofs.Answer.{OneAnswer, same}
use Rattle.macroblock.specs.Reply.{number}
use Rattle.macroblock.specs.declared.reply.Refusal.{Refusal}
use Rattle.macroblock.proofs.Refusals.{one_answer}
use Rattle.reconstruct.specs.Answers.{MbAnswer, told, refusal}
use Rattle.reconstruct.specs.declared.ReconstructedMb.{ReconstructedMb}
use Rattle.reconstruct.proofs.is_b.Reads as is_b
use Rattle.reconstruct.proofs.is_b.Kinds as is-b-k
use Rattle.reconstruct.proofs.decode_keyframe_mb_non_bpred.Reads as decode-keyframe-mb-non-bpred
use Rattle.reconstruct.proofs.decode_keyframe_mb_non_bpred.Kinds as decode-keyframe-mb-non-bpred-k
use Rattle.reconstruct.proofs.decode_keyframe_mb_bpred.Reads as decode-keyframe-mb-bpred
use Rattle.reconstruct.proofs.decode_keyframe_mb_bpred.Kinds as decode-keyframe-mb-bpred-k

-- what is told of an answer tells it
its-number : (e : Refusal) → (refusal (number e)).reply ≡ number e
unfolding refusal
its-number e = refl

abbrev planes : MbAnswer → ReconstructedMb
planes r = record { y = r.y; u = r.u; v = r.v; clipped = r.clipped }

pub told-one : (x y : Result ReconstructedMb Refusal) → told x ≡ told y → x ≡ y
told-one x y h = one_answer told (λ (r : MbAnswer). r.reply) planes (λ m. refl) (λ m. refl) its-number x y h

pub decode-keyframe-mb-non-bpred-one : OneAnswer 1 decode-keyframe-mb-non-bpred-k.ps decode-keyframe-mb-non-bpred-k.r decode-keyframe-mb-non-bpred.Post
decode-keyframe-mb-non-bpred-one κs a x y s t p q = told-one x y (same p q)

pub decode-keyframe-mb-bpred-one : OneAnswer 1 decode-keyframe-mb-bpred-k.ps decode-keyframe-mb-bpred-k.r decode-keyframe-mb-bpred.Post
decode-keyframe-mb-bpred-one κs a x y s t p q = told-one x y (same p q)

pub is-b-one : OneAnswer 0 is-b-k.ps is-b-k.r is_b.Post
is-b-one κs a x y s t = same
