-- The promise of `right_pixels` admits one answer only. Assumes nothing.
use mathlib.Core.Path.{refl}
use Rattle.lists.proofs.Answer.{OneAnswer, same}
use Rattle.macroblock.proofs.Refusals.{one_answer}
use Rattle.right_pixels.specs.Answers.{RightPixels, told}
use Rattle.right_pixels.proofs.right_pixels.Reads as right-pixels
use Rattle.right_pixels.proofs.right_pixels.Kinds as right-pixels-k

pub right-pixels-one : OneAnswer 1 right-pixels-k.ps right-pixels-k.r right-pixels.Post
right-pixels-one κs a x y s t p q =
    one_answer told (λ (r : RightPixels). r.reply) (λ (r : RightPixels). r.pixels) (λ n. refl) (λ n. refl) (λ e. refl) x y (same p q)
