-- A macroblock that is drawn with reply 0 is what the walker of its luma byte answers: of the 16x16 modes where the byte is not 4, of mode B where it is.
-- Assumes nothing.
use Prim.Native.Nat.{ℕ}
use mathlib.Core.Bool.{Bool, true, false}
use mathlib.Core.Path.{◌≡◌, refl, sym, ap, ◌∙◌}
use mathlib.Core.List.{List}
use mathlib.Core.Logic.{⊎_elim}
use native.Mathlib.Omega.{arith}
use borrow.Author.Tests.{eqb-true}
use lib.Dec.{eqb, leb}
use lib.IntN.{ℤ}
use lib.ListN.{length, drop}
use Rattle.lists.specs.Lists.{pick, both}
use Rattle.lists.proofs.Tests.{both-says, T_true}
use Rattle.macroblock.specs.Reply.{done, wrong_length, unknown_byte}
use Rattle.macroblock.specs.Modes.{mode_at, y_mode_at}
use Rattle.macroblock.specs.declared.neighbors.MbNeighbors.{MbNeighbors}
use Rattle.macroblock.specs.Says.{y_reply, y_mode, uv_reply}
use Rattle.rfc6386.specs.Edges.{is_b}
use Rattle.reconstruct.specs.Answers.{MbAnswer, refusal, non_b, walk_b}
use Rattle.drawing.specs.Drawn.{modes_known, modes_of, sub_modes_of, subs_known, drawn_b, drawn_in, drawn}
use Rattle.still_laws.proofs.Unread.{luma-says}

-- a test that was passed, k being the reply where it is not
passed : (b : Bool) (r : MbAnswer) (k : ℕ) → (k ≡ 0 → ⊥) → (pick b r (refusal k)).reply ≡ 0 → (b ≡ true) × (pick b r (refusal k) ≡ r)
unfolding refusal
passed true r k n e = (refl, refl)
passed false r k n e = absurd (n e)

pub mode-B : is_b (y_mode 4) ≡ true
unfolding y_mode y_mode_at mode_at
mode-B = refl

module _ (luma chroma skip : ℕ) (subs : List ℕ) (there : Bool) (n : MbNeighbors) (coeffs : List ℤ) where
  abbrev answer : MbAnswer
  answer = drawn luma chroma skip subs there n coeffs

  pub luma-known : modes_known luma chroma skip ≡ true → y_reply luma ≡ 0
  unfolding modes_known
  luma-known e =
      eqb-true (y_reply luma) 0 (T_true _ (both-says (eqb (y_reply luma) done) (both (eqb (uv_reply chroma) done) (leb skip 1)) e).0)

  module _ (accepted : answer.reply ≡ 0) where
    sized : answer ≡ pick (modes_known luma chroma skip) (drawn_in (modes_of luma chroma skip) subs there n coeffs) (refusal unknown_byte)
    unfolding drawn
    sized = (passed (eqb (length coeffs) 400) _ wrong_length (λ z. omega arith) accepted).1

    known : (modes_known luma chroma skip ≡ true)
        × (pick (modes_known luma chroma skip) (drawn_in (modes_of luma chroma skip) subs there n coeffs) (refusal unknown_byte)
        ≡ drawn_in (modes_of luma chroma skip) subs there n coeffs)
    known =
        passed (modes_known luma chroma skip) (drawn_in (modes_of luma chroma skip) subs there n coeffs) unknown_byte (λ z. omega arith)
        (ap (λ (r : MbAnswer). r.reply) (sym sized) ∙ accepted)

    in-mode : answer ≡ drawn_in (modes_of luma chroma skip) subs there n coeffs
    in-mode = sized ∙ known.1

    in-16x16 : is_b (y_mode luma) ≡ false → drawn_in (modes_of luma chroma skip) subs there n coeffs ≡ non_b (modes_of luma chroma skip) n coeffs
    unfolding drawn_in modes_of
    in-16x16 e = rw e

    pub is-non_b : (luma ≡ 4 → ⊥) → answer ≡ non_b (modes_of luma chroma skip) n coeffs
    is-non_b k =
        in-mode ∙ ⊎_elim (λ e. let z : y_reply luma ≡ 0 = luma-known known.0 in absurd (omega arith)) in-16x16 (luma-says luma k)

    in-B : luma ≡ 4 → drawn_in (modes_of luma chroma skip) subs there n coeffs ≡ drawn_b (modes_of luma chroma skip) subs there n coeffs
    unfolding drawn_in modes_of
    in-B e = rw (e, mode-B)

    pub is-walk_b : luma ≡ 4 → answer ≡ walk_b (sub_modes_of subs) there (modes_of luma chroma skip) n (drop 16 coeffs)
    unfolding drawn_b
    is-walk_b e =
        in-mode ∙ in-B e
        ∙ (passed (subs_known subs there) (walk_b (sub_modes_of subs) there (modes_of luma chroma skip) n (drop 16 coeffs)) unknown_byte (λ z. omega arith)
        (ap (λ (r : MbAnswer). r.reply) (sym (in-mode ∙ in-B e)) ∙ accepted)).1
