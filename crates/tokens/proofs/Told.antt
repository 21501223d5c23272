-- The answer from the walk: past the end, or not. Assumes nothing.
use Prim.Native.Nat.{ℕ, ◌≤◌, ◌<◌}
use mathlib.Core.Path.{◌≡◌, refl, sym, ap, ◌∙◌}
use mathlib.Core.Bool.{Bool, true, false}
use mathlib.Core.List.{List}
use native.Mathlib.Omega.{arith}
use lib.ListN.{length, get_or}
use borrow.Author.Tests.{ltb-false}
use Rattle.lists.specs.Lists.{pick}
use Rattle.bool_decoder.specs.BoolCoder.{Got, past, loaded}
use Rattle.bool_decoder.specs.Held.{Holds}
use Rattle.bool_decoder.specs.State.{state_of, coder_of, stands_of, Resumes, Saves}
use Rattle.bool_decoder.specs.declared.BoolDecoder.{BoolDecoder}
use Rattle.bool_decoder.specs.declared.state.BoolState.{BoolState}
use Rattle.tokens.specs.Tokens.{Thread, all_blocks}
use Rattle.tokens.specs.Walks.{Threads, Threaded, thread_of}
use Rattle.tokens.specs.Answers.{blank, Answer, refused, told_of, read_of, answered}

abbrev answer : Thread → BoolState → Answer
answer t s = record { reply = 0; coeffs = t.out; above = t.above; left = t.left; state = s }

module _ (src : List ℕ) (above left : List Bool) (s : BoolState) (g : Got Thread) (e : BoolDecoder) (r : BoolState) (holds : Holds src e g.next) (saves : Saves src e r) where
  saved-at : past src g.next ≡ false → r.at ≡ loaded g.next
  unfolding state_of
  saved-at p = ap (λ (x : BoolState). x.at) (saves.is g.next holds p)

  pub told-past : length src < r.at → refused 9 above left s ≡ told_of src above left s g
  told-past h = go (past src g.next) refl
    where
      go : (t : Bool) → past src g.next ≡ t → refused 9 above left s ≡ told_of src above left s g
      go true p = rw p
      go false p = absurd (omega (arith, saved-at p, ltb-false (length src) (loaded g.next) p))

  pub told-done : r.at ≤ length src → (t : Thread) → t ≡ g.got → answer t r ≡ told_of src above left s g
  told-done h t q = go (past src g.next) refl
    where
      go : (x : Bool) → past src g.next ≡ x → answer t r ≡ told_of src above left s g
      go true p = absurd (omega (arith, saves.over g.next holds p))
      go false p = ap (λ (i : Thread). answer i r) q ∙ ap (answer g.got) (saves.is g.next holds p) ∙ sym (ap (λ (x : Bool). pick x (refused 9 above left s) (answer g.got (state_of src g.next))) p)

-- from the walk's contract
module _ (src probs : List ℕ) (bytes : (i : ℕ) → get_or src i 0 < 256) (zeros y2 : Bool) (above left : List Bool) (s : BoolState) (st : stands_of src s ≡ true)
    (d : BoolDecoder) (rs : Resumes s d) (t : Thread) (e : BoolDecoder)
    (th : Threads src (all_blocks probs zeros y2 (thread_of above left blank)) d t e) (r : BoolState) (sv : Saves src e r) where
  read : Threaded src (all_blocks probs zeros y2 (thread_of above left blank)) (coder_of s) t e
  read = th.is (coder_of s) (rs.is src bytes st)

  pub answer-past : length src < r.at → refused 9 above left s ≡ answered src probs zeros y2 above left s
  unfolding answered
  answer-past h = told-past src above left s (read_of src probs zeros y2 above left s) e r read.holds sv h

  pub answer-done : r.at ≤ length src → answer t r ≡ answered src probs zeros y2 above left s
  unfolding answered
  answer-done h = told-done src above left s (read_of src probs zeros y2 above left s) e r read.holds sv h t read.thread
