-- An answer is a refusal that draws nothing, or the picture.
--     accepted-lengths                   what the test of the lengths says of the planes
--     still-answered, alone-answered     both calls
-- Assumes nothing.
use Prim.Native.Nat.{ℕ, ◌-◌, ◌*◌}
use mathlib.Core.Bool.{Bool, true, false}
use mathlib.Core.Path.{◌≡◌, refl}
use mathlib.Core.List.{List}
use native.Mathlib.Omega.{arith}
use lib.Dec.{eqb}
use lib.IntN.{ℤ}
use lib.ListN.{length}
use Rattle.lists.specs.Lists.{pick, both}
use Rattle.lists.proofs.Tests.{both-says, T_true}
use Rattle.macroblock.specs.Reply.{wrong_length, outside_picture}
use Rattle.rfc6386.specs.Picture.{sizes_ok, size_ok}
use Rattle.picture_limits.proofs.Accepted.{Within, Lengths, sizes-say}
use Rattle.still.specs.Picture.{Progress, progress, picture, right_given, right_read}
use Rattle.still.proofs.Sizes.{size-says}
use Rattle.still.specs.Answers.{lengths_ok, alone_fits, still_fits, still_answer, alone_answer}

module _ (w h : ℕ) (modes subs : List ℕ) (coeffs : List ℤ) (y u v : List ℕ) where
  abbrev lengths : Bool
  lengths = alone_fits w h modes subs coeffs y u v

  pub accepted-lengths : lengths ≡ true → Lengths (length y) (length u) (length v) w h
  unfolding lengths_ok
  accepted-lengths e =
      let sizes : Bool = sizes_ok (length y) (length u) (length v) w h in
      let a = both-says (eqb (length modes) (3 * (w * h))) (both (eqb (length subs) (16 * (w * h))) (both (eqb (length coeffs) (400 * (w * h))) sizes)) e in
      let b = both-says (eqb (length subs) (16 * (w * h))) (both (eqb (length coeffs) (400 * (w * h))) sizes) (T_true _ a.1) in
      let c = both-says (eqb (length coeffs) (400 * (w * h))) sizes (T_true _ b.1) in
      sizes-say (length y) (length u) (length v) w h (T_true _ c.1)

  -- an answer, `right` being where the right-hand pixels come from
  pub data Answered (right : ℕ → List ℕ → List ℕ) : Progress → Type 0 where
    refused : (n : ℕ) → (n ≡ 0 → ⊥) → Answered right (progress n 0 y u v)
    drawn : Within w h 0 0 → Lengths (length y) (length u) (length v) w h → Answered right (picture w h modes subs coeffs right y u v)

  by_tests : (right : ℕ → List ℕ → List ℕ) (a b : Bool) → size_ok w h ≡ a → (b ≡ true → lengths ≡ true)
      → Answered right (pick a (pick b (picture w h modes subs coeffs right y u v) (progress wrong_length 0 y u v)) (progress outside_picture 0 y u v))
  by_tests right false b e f = refused outside_picture (λ z. omega arith)
  by_tests right true false e f = refused wrong_length (λ z. omega arith)
  by_tests right true true e f = drawn (size-says w h e) (accepted-lengths (f refl))

  pub still-answered : (right : List ℕ) → Answered (right_given right) (still_answer w h modes subs coeffs right y u v)
  unfolding still_answer
  still-answered right =
      by_tests (right_given right) (size_ok w h) (still_fits w h modes subs coeffs right y u v) refl
      (λ e. T_true _ (both-says lengths (eqb (length right) (4 * (h - 1))) e).0)

  pub alone-answered : Answered (right_read w h) (alone_answer w h modes subs coeffs y u v)
  unfolding alone_answer
  alone-answered = by_tests (right_read w h) (size_ok w h) lengths refl (λ e. e)
