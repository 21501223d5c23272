-- Nothing later touches anything earlier, in a still: two calls of one size that are given the same for every macroblock but k, on planes that were found
-- equal or not. r and s are what the two calls return: the planes, the reply and the index, beside the count.
--     still_before, alone-before             they agree in every macroblock before k, in Y, U and V, also where one is refused at k or later
--     still-together, alone-together         what one has finished before k, the other has
--     still-counts, alone-counts             they count the same before k
--     still-counted, alone-counted           that is part of the count that a call returns, and all of it where macroblock k is refused
--     still-untouched, alone-untouched       they agree in luma in every finished macroblock that the change cannot reach
--     still-untouched-chroma, alone-..       and in U and V in every finished macroblock above k's row or left of its column
--     still-chroma-stays, alone-chroma-stays     and in U and V everywhere, where only luma coefficients of macroblock k differ
-- Assumes nothing.
use Prim.Native.Nat.{ℕ, ◌*◌, ◌/◌, ◌%◌, ◌<◌, ◌≤◌}
use mathlib.Core.Path.{◌≡◌, ap, ◌∙◌}
use mathlib.Core.Bool.{true}
use mathlib.Core.List.{List}
use native.Mathlib.Nat.{le_of_lt}
use native.Mathlib.Omega.{arith}
use lib.ListN.{length}
use Rattle.lists.proofs.Tests.{left-holds}
use Rattle.walker_laws.specs.Moves.{Untouched, UntouchedChroma}
use Rattle.still.specs.Picture.{Progress, picture, picture_clipped, right_given, right_read}
use Rattle.still.specs.Answers.{alone_fits, still_answer, alone_answer, still_clipped, alone_clipped}
use Rattle.still.proofs.Sizes.{size-says, fits}
use Rattle.still_laws.specs.Words.{Plane, in_y, Finished}
use Rattle.still_laws.proofs.Answered.{accepted-lengths, still-answered, alone-answered}
use Rattle.later_laws.specs.Calls.{Given, SameBut, SameChromaAt, SamePixels, DrawnTo, FitsStill, FitsAlone, still_of, alone_of, still_count, alone_count}
use Rattle.later_laws.proofs.Turns.{AnsweredOf}
use Rattle.later_laws.proofs.Steady.{given-steady, read-steady}
use Rattle.later_laws.proofs.Before.{Fitting, same-finished}
use Rattle.later_laws.proofs.Counted.{same_count, counted-part, counted-all}
use Rattle.later_laws.proofs.Cones.{luma, chroma, chroma-stays, earlier}

-- ---- `still`
module _ (w h : ℕ) (right : List ℕ) (a : Given) where
  still-picture : FitsStill w h right a → (still_of w h right a).0 ≡ picture w h a.modes a.subs a.coeffs (right_given right) a.y a.u a.v
  unfolding still_answer
  still-picture f = rw (f.0, f.1)

  still-clipped : FitsStill w h right a → (still_of w h right a).1 ≡ picture_clipped w h a.modes a.subs a.coeffs (right_given right) a.y a.u a.v
  unfolding still_clipped
  still-clipped f = rw (f.0, f.1)

  still-fitting : FitsStill w h right a → Fitting w h a
  still-fitting f =
      let g : alone_fits w h a.modes a.subs a.coeffs a.y a.u a.v ≡ true = left-holds _ _ f.1 in
      record {
        size = size-says w h f.0;
        planes = accepted-lengths w h a.modes a.subs a.coeffs a.y a.u a.v g;
        coefficients =
            (fits w h (length a.modes) (length a.subs) (length a.coeffs) (length a.y) (length a.u) (length a.v) f.0 g).coeffs-fit;
      }

  -- a call counts what it has counted before macroblock k, and no more where it is refused there
  pub still-counted : (r : Progress × ℕ) → r ≡ still_of w h right a → FitsStill w h right a → (k : ℕ) → k < w * h
      → (still_count w h right a k ≤ r.1) × ((r.0.reply ≡ 0 → ⊥) → r.0.index ≡ k → r.1 ≡ still_count w h right a k)
  still-counted r promise f k l =
      let p = ap (λ (x : Progress × ℕ). x.0) promise ∙ still-picture f in
      let q = ap (λ (x : Progress × ℕ). x.1) promise ∙ still-clipped f in
      rw (p, q)
      (counted-part w h (right_given right) a (still-fitting f) k (le_of_lt l), λ n i. counted-all w h (right_given right) a (still-fitting f) k (le_of_lt l) l n i)

module _ (w h : ℕ) (right : List ℕ) (k : ℕ) (a b : Given) (only : SameBut k a b) (r s : Progress × ℕ)
    (promise : r ≡ still_of w h right a) (promise2 : s ≡ still_of w h right b) where
  still_one : AnsweredOf w h (right_given right) a r.0
  still_one = rw promise (still-answered w h a.modes a.subs a.coeffs a.y a.u a.v right)

  still-two : AnsweredOf w h (right_given right) b s.0
  still-two = rw promise2 (still-answered w h b.modes b.subs b.coeffs b.y b.u b.v right)

  pub still_before : DrawnTo k r.0 → DrawnTo k s.0 → (j : ℕ) → j < k → j < w * h → (p : Plane) → SamePixels p w j r.0 s.0
  still_before = earlier w h (right_given right) (λ z. given-steady w h right) k a b only r.0 s.0 still_one still-two

  pub still-untouched : (j : ℕ) → Finished w h r.0 j → Finished w h s.0 j → Untouched (k / w) (k % w) (j / w) (j % w)
      → SamePixels in_y w j r.0 s.0
  still-untouched = luma w h (right_given right) (λ z. given-steady w h right) k a b only r.0 s.0 still_one still-two

  pub still-untouched-chroma : (p : Plane) → (p ≡ in_y → ⊥) → (j : ℕ) → Finished w h r.0 j → Finished w h s.0 j
      → UntouchedChroma (k / w) (k % w) (j / w) (j % w) → SamePixels p w j r.0 s.0
  still-untouched-chroma = chroma w h (right_given right) (λ z. given-steady w h right) k a b only r.0 s.0 still_one still-two

  pub still-chroma-stays : (p : Plane) → (p ≡ in_y → ⊥) → SameChromaAt a b k → (j : ℕ) → Finished w h r.0 j → Finished w h s.0 j
      → SamePixels p w j r.0 s.0
  still-chroma-stays = chroma-stays w h (right_given right) (λ z. given-steady w h right) k a b only r.0 s.0 still_one still-two

  module _ (fit : FitsStill w h right a) (fit2 : FitsStill w h right b) (inside : k ≤ w * h) where
    pub still-together : (j : ℕ) → j < k → Finished w h r.0 j → Finished w h s.0 j
    still-together j l f =
        let p = ap (λ (x : Progress × ℕ). x.0) promise ∙ still-picture w h right a fit in
        let q = ap (λ (x : Progress × ℕ). x.0) promise2 ∙ still-picture w h right b fit2 in
        rw q
        (same-finished w h (right_given right) a b (still-fitting w h right a fit) (still-fitting w h right b fit2) k inside (λ i m. only i (λ e. omega arith)) j l
        (rw p at f))

    pub still-counts : still_count w h right a k ≡ still_count w h right b k
    still-counts =
        same_count w h (right_given right) (λ z. given-steady w h right) a b (still-fitting w h right a fit) (still-fitting w h right b fit2) k inside (λ i m. only i (λ e. omega arith))

-- ---- `still_alone`
module _ (w h : ℕ) (a : Given) where
  alone-picture : FitsAlone w h a → (alone_of w h a).0 ≡ picture w h a.modes a.subs a.coeffs (right_read w h) a.y a.u a.v
  unfolding alone_answer
  alone-picture f = rw (f.0, f.1)

  alone-clipped : FitsAlone w h a → (alone_of w h a).1 ≡ picture_clipped w h a.modes a.subs a.coeffs (right_read w h) a.y a.u a.v
  unfolding alone_clipped
  alone-clipped f = rw (f.0, f.1)

  alone-fitting : FitsAlone w h a → Fitting w h a
  alone-fitting f =
      let g : alone_fits w h a.modes a.subs a.coeffs a.y a.u a.v ≡ true = f.1 in
      record {
        size = size-says w h f.0;
        planes = accepted-lengths w h a.modes a.subs a.coeffs a.y a.u a.v g;
        coefficients =
            (fits w h (length a.modes) (length a.subs) (length a.coeffs) (length a.y) (length a.u) (length a.v) f.0 g).coeffs-fit;
      }

  -- a call counts what it has counted before macroblock k, and no more where it is refused there
  pub alone-counted : (r : Progress × ℕ) → r ≡ alone_of w h a → FitsAlone w h a → (k : ℕ) → k < w * h
      → (alone_count w h a k ≤ r.1) × ((r.0.reply ≡ 0 → ⊥) → r.0.index ≡ k → r.1 ≡ alone_count w h a k)
  alone-counted r promise f k l =
      let p = ap (λ (x : Progress × ℕ). x.0) promise ∙ alone-picture f in
      let q = ap (λ (x : Progress × ℕ). x.1) promise ∙ alone-clipped f in
      rw (p, q)
      (counted-part w h (right_read w h) a (alone-fitting f) k (le_of_lt l), λ n i. counted-all w h (right_read w h) a (alone-fitting f) k (le_of_lt l) l n i)

module _ (w h : ℕ) (k : ℕ) (a b : Given) (only : SameBut k a b) (r s : Progress × ℕ)
    (promise : r ≡ alone_of w h a) (promise2 : s ≡ alone_of w h b) where
  alone-one : AnsweredOf w h (right_read w h) a r.0
  alone-one = rw promise (alone-answered w h a.modes a.subs a.coeffs a.y a.u a.v)

  alone-two : AnsweredOf w h (right_read w h) b s.0
  alone-two = rw promise2 (alone-answered w h b.modes b.subs b.coeffs b.y b.u b.v)

  pub alone-before : DrawnTo k r.0 → DrawnTo k s.0 → (j : ℕ) → j < k → j < w * h → (p : Plane) → SamePixels p w j r.0 s.0
  alone-before = earlier w h (right_read w h) (read-steady w h) k a b only r.0 s.0 alone-one alone-two

  pub alone-untouched : (j : ℕ) → Finished w h r.0 j → Finished w h s.0 j → Untouched (k / w) (k % w) (j / w) (j % w)
      → SamePixels in_y w j r.0 s.0
  alone-untouched = luma w h (right_read w h) (read-steady w h) k a b only r.0 s.0 alone-one alone-two

  pub alone-untouched-chroma : (p : Plane) → (p ≡ in_y → ⊥) → (j : ℕ) → Finished w h r.0 j → Finished w h s.0 j
      → UntouchedChroma (k / w) (k % w) (j / w) (j % w) → SamePixels p w j r.0 s.0
  alone-untouched-chroma = chroma w h (right_read w h) (read-steady w h) k a b only r.0 s.0 alone-one alone-two

  pub alone-chroma-stays : (p : Plane) → (p ≡ in_y → ⊥) → SameChromaAt a b k → (j : ℕ) → Finished w h r.0 j → Finished w h s.0 j
      → SamePixels p w j r.0 s.0
  alone-chroma-stays = chroma-stays w h (right_read w h) (read-steady w h) k a b only r.0 s.0 alone-one alone-two

  module _ (fit : FitsAlone w h a) (fit2 : FitsAlone w h b) (inside : k ≤ w * h) where
    pub alone-together : (j : ℕ) → j < k → Finished w h r.0 j → Finished w h s.0 j
    alone-together j l f =
        let p = ap (λ (x : Progress × ℕ). x.0) promise ∙ alone-picture w h a fit in
        let q = ap (λ (x : Progress × ℕ). x.0) promise2 ∙ alone-picture w h b fit2 in
        rw q
        (same-finished w h (right_read w h) a b (alone-fitting w h a fit) (alone-fitting w h b fit2) k inside (λ i m. only i (λ e. omega arith)) j l
        (rw p at f))

    pub alone-counts : alone_count w h a k ≡ alone_count w h b k
    alone-counts =
        same_count w h (right_read w h) (read-steady w h) a b (alone-fitting w h a fit) (alone-fitting w h b fit2) k inside (λ i m. only i (λ e. omega arith))
