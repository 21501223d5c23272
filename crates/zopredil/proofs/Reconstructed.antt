-- The answer, by the outcome of the tests. Assumes nothing.
use mathlib.Core.Path.{◌≡◌, refl, ap, ◌∙◌}
use mathlib.Core.Bool.{Bool, true, false, ◌&&◌}
use mathlib.Core.List.{List, [], ◌∷◌, ◌++◌}
use Prim.Native.Nat.{ℕ}
use borrow.Author.Tests.{eqb-true}
use lib.Dec.{eqb}
use lib.IntN.{ℤ}
use lib.ListN.{length, get_or, replicate}
use Rattle.std.specs.Prelude.{Ok, Err}
use Rattle.lists.specs.Lists.{pick, both, sized, ◌beside◌}
use Rattle.lists.proofs.Tests.{left-holds, right-holds}
use Rattle.slices.specs.Copies.{or_zeros, cleared, put_in}
use Rattle.slices.proofs.Copied.{put_fit}
use Rattle.lists.proofs.Pairs.{pair}
use Rattle.macroblock.specs.Reply.{unknown_byte, number}
use Rattle.macroblock.specs.declared.reply.Refusal.{Refusal}
use Rattle.record_bytes.specs.Bytes.{marks_known}
use Rattle.reconstruct.specs.Answers.{MbAnswer, refusal, told}
use Rattle.reconstruct.specs.declared.ReconstructedMb.{ReconstructedMb}
use Rattle.drawing.specs.Drawn.{planes_of, drawn_bytes}
use Rattle.zopredil.specs.Macroblocks.{sub_modes_fit, lengths_fit, mb_answer}

-- ---- what the test of the lengths says
module _ (modes subs «record» coeffs out clipped : ℕ) (fit : lengths_fit modes subs «record» coeffs out clipped ≡ true) where
  pub modes-fit : modes ≡ 3
  unfolding lengths_fit
  modes-fit = eqb-true modes 3 (left-holds (eqb modes 3) _ fit)

  after-modes : both (sub_modes_fit subs) (both (eqb «record» 81) (both (eqb coeffs 400) (both (eqb out 384) (eqb clipped 1)))) ≡ true
  unfolding lengths_fit
  after-modes = right-holds (eqb modes 3) _ fit

  after-subs : both (eqb «record» 81) (both (eqb coeffs 400) (both (eqb out 384) (eqb clipped 1))) ≡ true
  after-subs = right-holds (sub_modes_fit subs) _ after-modes

  pub record-fits : «record» ≡ 81
  record-fits = eqb-true «record» 81 (left-holds (eqb «record» 81) _ after-subs)

  last-two : both (eqb out 384) (eqb clipped 1) ≡ true
  last-two = right-holds (eqb coeffs 400) _ (right-holds (eqb «record» 81) _ after-subs)

  pub out-fits : out ≡ 384
  out-fits = eqb-true out 384 (left-holds (eqb out 384) _ last-two)

  pub clipped-fits : clipped ≡ 1
  clipped-fits = eqb-true clipped 1 (right-holds (eqb out 384) _ last-two)

-- ---- the tests of the lengths, as the code makes them
pub all-fit : (m r k o c : Bool) → ((((m && r) && k) && o) && c) ≡ both m (both true (both r (both k (both o c))))
all-fit true true true true c = refl
all-fit true true true false c = refl
all-fit true true false o c = refl
all-fit true false k o c = refl
all-fit false r k o c = refl

pub none-fit : (m b : Bool) → false ≡ both m (both false b)
none-fit true b = refl
none-fit false b = refl

-- ---- the answers
picked : (b : Bool) (r : MbAnswer)
    → let a = pick b r (refusal unknown_byte) in
    (a.reply beside planes_of a beside a.clipped ∷ [])
    ≡ pick b (r.reply beside planes_of r beside r.clipped ∷ []) (unknown_byte beside replicate 384 0 beside 0 ∷ [])
unfolding planes_of refusal
picked true r = refl
picked false r = refl

module _ (modes subs «record» : List ℕ) (coeffs : List ℤ) (out clipped : List ℕ) where
  pub refused : lengths_fit (length modes) (length subs) (length «record») (length coeffs) (length out) (length clipped) ≡ false
      → (1 beside out beside clipped) ≡ mb_answer modes subs «record» coeffs out clipped
  unfolding mb_answer
  refused e = rw e

  module _ (fit : lengths_fit (length modes) (length subs) (length «record») (length coeffs) (length out) (length clipped) ≡ true) where
    out-384 : length out ≡ 384
    out-384 = out-fits (length modes) (length subs) (length «record») (length coeffs) (length out) (length clipped) fit

    clipped-1 : length clipped ≡ 1
    clipped-1 = clipped-fits (length modes) (length subs) (length «record») (length coeffs) (length out) (length clipped) fit

    -- what was drawn is the answer, refused or not
    drawn-is : (a : MbAnswer)
        → a ≡ drawn_bytes (get_or modes 0 0) (get_or modes 1 0) (get_or modes 2 0) (or_zeros 0 16 subs) (sized 16 subs) «record» coeffs
        → (a.reply beside planes_of a beside a.clipped ∷ []) ≡ mb_answer modes subs «record» coeffs out clipped
    unfolding mb_answer drawn_bytes
    drawn-is a e = rw (fit, e) (picked (marks_known «record») _)

    pub given : (mb : ReconstructedMb) (then count : List ℕ) (n : ℕ)
        → told (Ok mb) ≡ drawn_bytes (get_or modes 0 0) (get_or modes 1 0) (get_or modes 2 0) (or_zeros 0 16 subs) (sized 16 subs) «record» coeffs
        → then ≡ put_in 384 (mb.y ++ (mb.u ++ mb.v)) out → n ≡ mb.clipped → count ≡ put_in 1 (n ∷ []) clipped
        → (0 beside then beside count) ≡ mb_answer modes subs «record» coeffs out clipped
    unfolding planes_of
    given mb then count n e p q r =
        pair refl (pair (p ∙ put_fit 384 _ out out-384) (r ∙ put_fit 1 _ clipped clipped-1 ∙ ap (λ (k : ℕ). k ∷ []) q)) ∙ drawn-is (told (Ok mb)) e

    pub unknown : (r : Refusal) (k : ℕ) (then count : List ℕ)
        → told (Err r) ≡ drawn_bytes (get_or modes 0 0) (get_or modes 1 0) (get_or modes 2 0) (or_zeros 0 16 subs) (sized 16 subs) «record» coeffs
        → k ≡ number r → then ≡ cleared out → count ≡ put_in 1 (0 ∷ []) clipped
        → (k beside then beside count) ≡ mb_answer modes subs «record» coeffs out clipped
    unfolding planes_of refusal cleared
    unknown r k then count e q z n =
        pair q (pair (z ∙ ap (λ (k : ℕ). replicate k 0) out-384) (n ∙ put_fit 1 _ clipped clipped-1)) ∙ drawn-is (told (Err r)) e
