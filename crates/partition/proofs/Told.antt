-- What is told of an answer is what stands in what was lent. Assumes nothing.
use Rattle.std.proofs.Common.{◌≡◌, ℕ, Bool, List, Result, Ok, Err, pos, replicate, refl}
use Rattle.macroblock.specs.declared.reply.Refusal.{Refusal}
use Rattle.macroblock.proofs.Refusals.{number-not-done}
use Rattle.bool_decoder.specs.declared.state.BoolState.{BoolState}
use Rattle.tokens.specs.Answers.{blank, told}
use Rattle.tokens.specs.declared.Macroblock.{Macroblock}
use Rattle.partition.specs.Answers.{put_answer, put_told}

-- a refusal's flags and state are those that were handed in as numbers, whatever it says of them
pub put-told : (f g : List Bool) (s : BoolState) (r : Result Macroblock Refusal) (above left state : List ℕ)
    → put_told r above left state ≡ put_answer (told f g s r) above left state
unfolding put_answer
put-told f g s (Ok m) above left state = refl
put-told f g s (Err e) above left state = rw (number-not-done e) refl

pub filled : (n : ℕ) → n ≡ 400 → replicate n (pos 0) ≡ blank
unfolding blank
filled n h = rw h refl
