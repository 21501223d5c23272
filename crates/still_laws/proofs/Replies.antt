-- The replies of a still. 7 for its size, then 1 for a length, with the planes as found; where both are accepted, 0 where the bytes of every macroblock are
-- known, and else 8, with the raster index of the first macroblock whose bytes are not.
--     still-size, still-length, still-known, still-unknown     with right-hand pixels
--     alone-size, alone-length, alone-known, alone-unknown     without
-- Assumes nothing.
use Prim.Native.Nat.{ℕ, zero, suc, ◌-◌, ◌*◌, ◌<◌, ◌≤◌}
use mathlib.Core.Bool.{Bool, true, false}
use mathlib.Core.Path.{◌≡◌, refl, ap, ◌∙◌}
use mathlib.Core.List.{List}
use native.Mathlib.Omega.{arith}
use borrow.Author.Tests.{eq-eqb}
use lib.IntN.{ℤ}
use lib.ListN.{length, drop, length-drop}
use lib.Seq.{length-take-le}
use Rattle.lists.specs.Lists.{turns, pick}
use Rattle.macroblock.specs.Reply.{done, wrong_length, outside_picture, unknown_byte}
use Rattle.picture_limits.proofs.Accepted.{Within, Lengths}
use Rattle.still.specs.Picture.{Progress, progress, first, picture, right_given, right_read}
use Rattle.still.specs.Answers.{alone_fits, still_fits, still_answer, alone_answer}
use Rattle.rfc6386.specs.Picture.{size_ok}
use Rattle.still.proofs.Sizes.{size-says, fits}
use Rattle.still_laws.specs.Words.{coeffs_at, bytes_known}
use Rattle.still_laws.proofs.First.{first_step, first-refused, index-none, step-index}
use Rattle.still_laws.proofs.Answered.{accepted-lengths}
use Rattle.still_laws.proofs.Known.{made-reply, turn-reply}
use Rattle.still_laws.proofs.Neighbors.{gathers-all, place, lengths-at}

-- ---- the picture, its size and its lengths accepted
module _ (w h : ℕ) (modes subs : List ℕ) (coeffs : List ℤ) (right : ℕ → List ℕ → List ℕ) (y u v : List ℕ)
    (size : Within w h 0 0) (planes : Lengths (length y) (length u) (length v) w h) (four-hundred : length coeffs ≡ 400 * (w * h)) where
  abbrev at : ℕ → Progress
  at n = first w h modes subs coeffs right n y u v

  abbrev whole : Progress
  whole = picture w h modes subs coeffs right y u v

  coeffs-length : (k : ℕ) → k < w * h → length (coeffs_at coeffs k) ≡ 400
  coeffs-length k l = length-take-le 400 (drop (400 * k) coeffs) (rw (length-drop (400 * k) coeffs) (omega arith))

  -- macroblock k, none before it refused
  pub first-reply : (k : ℕ) → k < w * h → (at k).reply ≡ 0 → (at (suc k)).reply ≡ pick (bytes_known modes subs k) done unknown_byte
  unfolding first turns
  first-reply k l z =
      turn-reply w h modes subs coeffs right k (at k) z
      (gathers-all w h right k (at k) (place w h modes subs coeffs right y u v size k l) (lengths-at w h modes subs coeffs right y u v planes k))
      ∙ made-reply w h modes subs coeffs right k (at k) (coeffs-length k l)

  pub known-so-far : (n : ℕ) → n ≤ w * h → ((k : ℕ) → k < n → bytes_known modes subs k ≡ true) → (at n).reply ≡ 0
  unfolding first turns
  known-so-far zero l e = refl
  known-so-far (suc n) l e =
      first-reply n l (known-so-far n (omega arith) (λ k m. e k (omega arith))) ∙ ap (λ (b : Bool). pick b done unknown_byte) (e n (omega arith))

  pub picture-known : ((k : ℕ) → k < w * h → bytes_known modes subs k ≡ true) → (whole.reply ≡ done) × (whole.index ≡ 0)
  unfolding picture
  picture-known e =
      let z : (at (w * h)).reply ≡ 0 = known-so-far (w * h) (omega arith) e in
      (z, index-none w h modes subs coeffs right y u v (w * h) z)

  pub picture-unknown : (j : ℕ) → j < w * h → ((k : ℕ) → k < j → bytes_known modes subs k ≡ true) → bytes_known modes subs j ≡ false
      → (whole.reply ≡ unknown_byte) × (whole.index ≡ j)
  unfolding picture
  picture-unknown j l e n =
      let z : (at j).reply ≡ 0 = known-so-far j (omega arith) e in
      let r : (at (suc j)).reply ≡ 8 = first-reply j l z ∙ ap (λ (b : Bool). pick b done unknown_byte) n in
      let s : at (w * h) ≡ at (suc j) = first-refused w h modes subs coeffs right y u v (suc j) (w * h) l (λ q. omega arith) in (
        ap (λ (d : Progress). d.reply) s ∙ r,
        ap (λ (d : Progress). d.index) s ∙ step-index (first_step w h modes subs coeffs right y u v j) (λ q. omega arith) z,
      )

-- ---- the two calls, by their tests
module _ (w h : ℕ) (modes subs : List ℕ) (coeffs : List ℤ) (y u v : List ℕ) where
  abbrev lengths : Bool
  lengths = alone_fits w h modes subs coeffs y u v

  -- refused before anything is drawn
  pub still-size : (given : List ℕ) → size_ok w h ≡ false → still_answer w h modes subs coeffs given y u v ≡ progress outside_picture 0 y u v
  unfolding still_answer
  still-size given e = rw e

  pub alone-size : size_ok w h ≡ false → alone_answer w h modes subs coeffs y u v ≡ progress outside_picture 0 y u v
  unfolding alone_answer
  alone-size e = rw e

  module _ (size : size_ok w h ≡ true) where
    pub still-length : (given : List ℕ) → still_fits w h modes subs coeffs given y u v ≡ false
        → still_answer w h modes subs coeffs given y u v ≡ progress wrong_length 0 y u v
    unfolding still_answer
    still-length given e = rw (size, e)

    pub alone-length : lengths ≡ false → alone_answer w h modes subs coeffs y u v ≡ progress wrong_length 0 y u v
    unfolding alone_answer
    alone-length e = rw (size, e)

    module _ (long : lengths ≡ true) where
      abbrev Known : ℕ → Type 0
      Known n = (k : ℕ) → k < n → bytes_known modes subs k ≡ true

      fitting : length coeffs ≡ 400 * (w * h)
      fitting = (fits w h (length modes) (length subs) (length coeffs) (length y) (length u) (length v) size long).coeffs-fit

      planes-fit : Lengths (length y) (length u) (length v) w h
      planes-fit = accepted-lengths w h modes subs coeffs y u v long

      alone-is : alone_answer w h modes subs coeffs y u v ≡ picture w h modes subs coeffs (right_read w h) y u v
      unfolding alone_answer
      alone-is = rw (size, long)

      pub alone-known : Known (w * h) → ((alone_answer w h modes subs coeffs y u v).reply ≡ done) × ((alone_answer w h modes subs coeffs y u v).index ≡ 0)
      alone-known e = rw alone-is (picture-known w h modes subs coeffs (right_read w h) y u v (size-says w h size) planes-fit fitting e)

      pub alone-unknown : (j : ℕ) → j < w * h → Known j → bytes_known modes subs j ≡ false
          → ((alone_answer w h modes subs coeffs y u v).reply ≡ unknown_byte) × ((alone_answer w h modes subs coeffs y u v).index ≡ j)
      alone-unknown j l e n = rw alone-is (picture-unknown w h modes subs coeffs (right_read w h) y u v (size-says w h size) planes-fit fitting j l e n)

      module _ (given : List ℕ) (four : length given ≡ 4 * (h - 1)) where
        still-is : still_answer w h modes subs coeffs given y u v ≡ picture w h modes subs coeffs (right_given given) y u v
        unfolding still_answer
        still-is = rw (size, long, eq-eqb (length given) (4 * (h - 1)) four)

        pub still-known : Known (w * h)
            → ((still_answer w h modes subs coeffs given y u v).reply ≡ done) × ((still_answer w h modes subs coeffs given y u v).index ≡ 0)
        still-known e = rw still-is (picture-known w h modes subs coeffs (right_given given) y u v (size-says w h size) planes-fit fitting e)

        pub still-unknown : (j : ℕ) → j < w * h → Known j → bytes_known modes subs j ≡ false
            → ((still_answer w h modes subs coeffs given y u v).reply ≡ unknown_byte) × ((still_answer w h modes subs coeffs given y u v).index ≡ j)
        still-unknown j l e n = rw still-is (picture-unknown w h modes subs coeffs (right_given given) y u v (size-says w h size) planes-fit fitting j l e n)
