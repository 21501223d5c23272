-- Each promise of `tokens` admits one answer only: no two answers are told alike. Assumes nothing.
use Rattle.std.proofs.Common.{◌≡◌, refl, Bool, List, Result}
use Rattle.lists.proofs.Answer.{OneAnswer, same}
use Rattle.macroblock.proofs.Refusals.{one_answer}
use Rattle.macroblock.specs.declared.reply.Refusal.{Refusal}
use Rattle.bool_decoder.specs.declared.state.BoolState.{BoolState}
use Rattle.tokens.specs.Answers.{Answer, told}
use Rattle.tokens.specs.declared.Macroblock.{Macroblock}
use Rattle.tokens.proofs.decode_macroblock.Reads as decode-macroblock
use Rattle.tokens.proofs.decode_macroblock.Kinds as decode-macroblock-k
use Rattle.tokens.proofs.walk_macroblock.Reads as walk-macroblock
use Rattle.tokens.proofs.walk_macroblock.Kinds as walk-macroblock-k

abbrev value : Answer → Macroblock
value w = record { coeffs = w.coeffs; above = w.above; left = w.left; state = w.state }

pub told_once : (above left : List Bool) (s : BoolState) (x y : Result Macroblock Refusal) → told above left s x ≡ told above left s y → x ≡ y
told_once above left s x y h = one_answer (told above left s) (λ (w : Answer). w.reply) value (λ m. refl) (λ m. refl) (λ e. refl) x y h

pub decode-macroblock-one : OneAnswer 2 decode-macroblock-k.ps decode-macroblock-k.r decode-macroblock.Post
decode-macroblock-one κs a x y s t p q = told_once _ _ _ x y (same p q)

pub walk-macroblock-one : OneAnswer 2 walk-macroblock-k.ps walk-macroblock-k.r walk-macroblock.Post
walk-macroblock-one κs a x y s t p q = told_once _ _ _ x y (same p q)
