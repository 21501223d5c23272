-- The answer of a macroblock's tokens: 400 coefficients, the contexts, and the bool decoder's state; or a refusal.
--     walked    for any probabilities, with either rule of the flags
--     decoded   the Rust's rule, and no probability 0
use Rattle.std.specs.Prelude.{ℕ, List, Bool, false, eqb, ℤ, pos, length, replicate, Result, Ok, Err}
use Rattle.lists.specs.Lists.{pick}
use Rattle.macroblock.specs.Reply.{done, number}
use Rattle.macroblock.specs.declared.reply.Refusal.{Refusal}
use Rattle.bool_decoder.specs.BoolCoder.{Got, ran, past}
use Rattle.bool_decoder.specs.State.{state_of, coder_of, stands_of}
use Rattle.bool_decoder.specs.declared.state.BoolState.{BoolState}
use Rattle.token_probs.specs.Answers.{no_zero}
use Rattle.tokens.specs.Tokens.{Thread, all_blocks}
use Rattle.tokens.specs.Walks.{thread_of}
use Rattle.tokens.specs.declared.Macroblock.{Macroblock}

unfoldable pub blank : List ℤ
blank = replicate 400 (pos 0)

-- the reply, and what stands beside it
pub record Answer : Type 0 where
  pub reply : ℕ
  pub coeffs : List ℤ
  pub above : List Bool
  pub left : List Bool
  pub state : BoolState

-- all coefficients 0, contexts and state as they came in
abbrev pub refused : ℕ → List Bool → List Bool → BoolState → Answer
refused reply above left s = record { reply = reply; coeffs = blank; above = above; left = left; state = s }

-- what a call with these contexts and this state says: its value, or a refusal by its number
abbrev pub told : List Bool → List Bool → BoolState → Result Macroblock Refusal → Answer
told above left s (Ok m) = record { reply = done; coeffs = m.coeffs; above = m.above; left = m.left; state = m.state }
told above left s (Err e) = refused (number e) above left s

-- what the walk reads, from a state that stands
abbrev pub read_of : List ℕ → List ℕ → Bool → Bool → List Bool → List Bool → BoolState → Got Thread
read_of src probs zeros y2 above left s = ran src (all_blocks probs zeros y2 (thread_of above left blank)) (coder_of s)

abbrev pub told_of : List ℕ → List Bool → List Bool → BoolState → Got Thread → Answer
told_of src above left s g =
    pick (past src g.next) (refused 9 above left s)
    (record { reply = 0; coeffs = g.got.out; above = g.got.above; left = g.got.left; state = state_of src g.next })

unfoldable pub answered : List ℕ → List ℕ → Bool → Bool → List Bool → List Bool → BoolState → Answer
answered src probs zeros y2 above left s = told_of src above left s (read_of src probs zeros y2 above left s)

unfoldable pub walked : List ℕ → List ℕ → Bool → Bool → List Bool → List Bool → BoolState → Answer
walked src probs zeros y2 above left s =
    pick (eqb (length probs) 1056)
    (pick (stands_of src s) (answered src probs zeros y2 above left s) (refused 9 above left s))
    (refused 1 above left s)

unfoldable pub decoded : List ℕ → List ℕ → Bool → List Bool → List Bool → BoolState → Answer
decoded src probs y2 above left s =
    pick (eqb (length probs) 1056)
    (pick (no_zero probs) (walked src probs false y2 above left s) (refused 10 above left s))
    (refused 1 above left s)
