-- A macroblock is read from no byte past those that its state's place counts: other bytes behind them give the same answer. Assumes nothing.
use Prim.Native.Nat.{ℕ, ◌+◌, ◌*◌, ◌/◌, ◌%◌, ◌^◌, ◌≤◌}
use mathlib.Core.Bool.{Bool, true, false}
use mathlib.Core.List.{List}
use mathlib.Core.Path.{◌≡◌, refl, sym, ap, ◌∙◌}
use native.Mathlib.Omega.{arith}
use lib.Dec.{eqb}
use lib.ListN.{length}
use borrow.Author.Tests.{le-ltb}
use Rattle.lists.specs.Lists.{pick}
use Rattle.bool_decoder.specs.BoolCoder.{Got, past, loaded}
use Rattle.bool_decoder.specs.State.{state_of, coder_of, stands_of}
use Rattle.bool_decoder.proofs.Later.{Agree, ran-same}
use Rattle.bool_decoder.specs.declared.state.BoolState.{BoolState}
use Rattle.tokens.specs.Tokens.{Thread, all_blocks}
use Rattle.tokens.specs.Walks.{thread_of}
use Rattle.tokens.specs.Answers.{Answer, blank, refused, read_of, told_of, answered, walked}

abbrev saved : ℕ → ℕ → ℕ → ℕ → BoolState
saved a r v b = record { at = a; range = r; value = v; bit_count = b }

abbrev full : Got Thread → BoolState → Answer
full g s = record { reply = 0; coeffs = g.got.out; above = g.got.above; left = g.got.left; state = s }

module _ (src other probs : List ℕ) (zeros y2 : Bool) (above left : List Bool) (s : BoolState) where
  abbrev g : Got Thread
  g = read_of src probs zeros y2 above left s

  state-same : Agree (loaded g.next) src other → state_of src g.next ≡ state_of other g.next
  unfolding state_of
  state-same a =
      ap (λ (b : ℕ). saved (loaded g.next) g.next.range (g.next.value * 256 + b * 2 ^ (g.next.place % 8) % 256) (g.next.place % 8)) (a (1 + g.next.place / 8) (omega arith))

  -- an answer of reply 0 is that of every partition which has the same bytes before the state's place
  pub answered-behind : (answered src probs zeros y2 above left s).reply ≡ 0 → (n : ℕ) → loaded g.next ≤ n → Agree n src other → n ≤ length other
      → answered other probs zeros y2 above left s ≡ answered src probs zeros y2 above left s
  unfolding answered
  answered-behind r n h a l = go (past src g.next) refl r
    where
      same : read_of src probs zeros y2 above left s ≡ read_of other probs zeros y2 above left s
      same = ran-same n src other (all_blocks probs zeros y2 (thread_of above left blank)) (coder_of s) a h

      go : (t : Bool) → past src g.next ≡ t → (pick t (refused 9 above left s) (full g (state_of src g.next))).reply ≡ 0
          → told_of other above left s (read_of other probs zeros y2 above left s) ≡ told_of src above left s g
      go true p e = absurd (omega arith)
      go false p e =
          ap (told_of other above left s) (sym same)
          ∙ ap (λ (t : Bool). pick t (refused 9 above left s) (full g (state_of other g.next))) (le-ltb (length other) (loaded g.next) (omega arith))
          ∙ ap (full g) (sym (state-same (λ i k. a i (omega arith))))
          ∙ sym (ap (λ (t : Bool). pick t (refused 9 above left s) (full g (state_of src g.next))) p)

  pub walked-behind : stands_of other s ≡ true → (walked src probs zeros y2 above left s).reply ≡ 0 → (n : ℕ) → loaded g.next ≤ n → Agree n src other → n ≤ length other
      → walked other probs zeros y2 above left s ≡ walked src probs zeros y2 above left s
  unfolding walked
  walked-behind st r n h a l = go (eqb (length probs) 1056) (stands_of src s) r
    where
      go : (x y : Bool) → (pick x (pick y (answered src probs zeros y2 above left s) (refused 9 above left s)) (refused 1 above left s)).reply ≡ 0
          → pick x (pick (stands_of other s) (answered other probs zeros y2 above left s) (refused 9 above left s)) (refused 1 above left s)
          ≡ pick x (pick y (answered src probs zeros y2 above left s) (refused 9 above left s)) (refused 1 above left s)
      go false y e = refl
      go true false e = absurd (omega arith)
      go true true e =
          ap (λ (t : Bool). pick t (answered other probs zeros y2 above left s) (refused 9 above left s)) st ∙ answered-behind e n h a l
