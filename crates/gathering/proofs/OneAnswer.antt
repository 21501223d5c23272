-- The promise of `gather` admits one answer only. Assumes nothing.
use mathlib.Core.Path.{refl}
use Rattle.lists.proofs.Answer.{OneAnswer, same}
use Rattle.macroblock.proofs.Refusals.{one_answer}
use Rattle.gathering.specs.Answers.{Gathered, told}
use Rattle.gathering.proofs.gather.Reads as gather
use Rattle.gathering.proofs.gather.Kinds as gather-k

pub gather-one : OneAnswer 3 gather-k.ps gather-k.r gather.Post
gather-one κs a x y s t p q =
    one_answer told (λ (g : Gathered). g.reply) (λ (g : Gathered). g.neighbors) (λ n. refl) (λ n. refl) (λ e. refl) x y (same p q)
