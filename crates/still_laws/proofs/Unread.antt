-- The sub-block bytes of a macroblock whose luma byte is not 4, mode B, are not looked at: two lists of them that agree on the sixteen of each macroblock of
-- luma byte 4 give the same answer, refused or not.
--     drawn-unread    one macroblock
--     turn-unread     one turn
--     still-told-unread, alone-told-unread     the two calls: reply, planes and count
-- Assumes nothing.
use Prim.Native.Nat.{ℕ, zero, suc, ◌+◌, ◌*◌, ◌/◌, ◌%◌, ◌<◌, ◌≤◌}
use mathlib.Core.Bool.{Bool, true, false}
use mathlib.Core.Path.{◌≡◌, refl, sym, ap, ◌∙◌}
use mathlib.Core.List.{List, [], ◌∷◌}
use mathlib.Core.Logic.{◌⊎◌, inl, inr, ⊎_elim}
use native.Mathlib.Omega.{arith}
use borrow.Author.Tests.{le-ltb, eqb-true, eqb-false}
use lib.Dec.{eqb}
use lib.IntN.{ℤ}
use lib.ListN.{length, get_or, take, drop, length-take, length-drop}
use lib.Seq.{get_or-take, get_or-drop, ext_get_or}
use Rattle.lists.specs.Lists.{pick}
use Rattle.lists.proofs.Nested.{turns-ext}
use Rattle.macroblock.specs.Reply.{done, unknown_byte}
use Rattle.macroblock.specs.Modes.{mode_at, y_mode_at}
use Rattle.macroblock.specs.declared.modes.IntraYMode.TheVariants as y
use Rattle.macroblock.specs.declared.neighbors.MbNeighbors.{MbNeighbors}
use Rattle.macroblock.specs.Says.{y_reply, y_mode}
use Rattle.rfc6386.specs.Edges.{is_b}
use Rattle.gathering.specs.Answers.{gathered}
use Rattle.drawing.specs.Drawn.{modes_known, modes_of, drawn_in, drawn}
use Rattle.canvas.specs.Into.{made, drawn_into, clipped_into}
use Rattle.lists.proofs.Total.{total_ext}
use Rattle.still.specs.Picture.{Progress, progress, drawn_at, turn, first, picture, count_at, count_in, first_clipped, picture_clipped, right_given, right_read}
use Rattle.still.specs.Answers.{still_answer, alone_answer, still_clipped, alone_clipped, still_told, alone_told}
use Rattle.still_laws.specs.Words.{SameB}

is-or-not : (a b : ℕ) → (a ≡ b) ⊎ (a ≡ b → ⊥)
is-or-not a b = by (eqb a b) refl
  where
    by : (t : Bool) → eqb a b ≡ t → (a ≡ b) ⊎ (a ≡ b → ⊥)
    by true e = inl (eqb-true a b e)
    by false e = inr (eqb-false a b e)

-- ---- one macroblock
mode-past : {A : Type 0} (m : A) (ms : List A) (byte : ℕ) → length (m ∷ ms) ≤ byte → (mode_at m ms byte).0 ≡ unknown_byte
unfolding mode_at
mode-past {A} m ms byte h =
    ap (λ (b : Bool). (pick {A = ℕ × A} b (done, get_or (m ∷ ms) byte m) (unknown_byte, m)).0) (le-ltb byte (length (m ∷ ms)) h)

-- a luma byte that is not 4 is no mode's number, or a 16x16 mode's
pub luma-says : (luma : ℕ) → (luma ≡ 4 → ⊥) → (y_reply luma ≡ unknown_byte) ⊎ (is_b (y_mode luma) ≡ false)
unfolding y_reply y_mode y_mode_at mode_at
luma-says zero h = inr refl
luma-says (suc zero) h = inr refl
luma-says (suc (suc zero)) h = inr refl
luma-says (suc (suc (suc zero))) h = inr refl
luma-says (suc (suc (suc (suc zero)))) h = absurd (h refl)
luma-says (suc (suc (suc (suc (suc luma))))) h =
    inl (mode-past y.Dc (y.«V» ∷ y.H ∷ y.Tm ∷ y.B ∷ []) (suc (suc (suc (suc (suc luma))))) (omega arith))

module _ (luma chroma skip : ℕ) (subs others : List ℕ) (there : Bool) (n : MbNeighbors) (coeffs : List ℤ) where
  unknown-unread : y_reply luma ≡ unknown_byte → drawn luma chroma skip subs there n coeffs ≡ drawn luma chroma skip others there n coeffs
  unfolding drawn modes_known
  unknown-unread e = rw e

  whole-unread : is_b (y_mode luma) ≡ false → drawn luma chroma skip subs there n coeffs ≡ drawn luma chroma skip others there n coeffs
  unfolding drawn drawn_in modes_of
  whole-unread e = rw e

  pub drawn-unread : (luma ≡ 4 → ⊥) → drawn luma chroma skip subs there n coeffs ≡ drawn luma chroma skip others there n coeffs
  drawn-unread h = ⊎_elim unknown-unread whole-unread (luma-says luma h)

-- ---- one turn
module _ (w h : ℕ) (modes subs others : List ℕ) (coeffs : List ℤ) (right : ℕ → List ℕ → List ℕ) (k : ℕ) (d : Progress) where
  -- the sixteen are the same
  same_turn : take 16 (drop (16 * k) subs) ≡ take 16 (drop (16 * k) others) → turn w h modes subs coeffs right k d ≡ turn w h modes others coeffs right k d
  unfolding turn drawn_at
  same_turn e = rw e

  other-turn : (get_or modes (3 * k) 0 ≡ 4 → ⊥) → turn w h modes subs coeffs right k d ≡ turn w h modes others coeffs right k d
  unfolding turn drawn_at drawn_into made
  other-turn n =
      rw
      (drawn-unread (get_or modes (3 * k) 0) (get_or modes (3 * k + 1) 0) (get_or modes (3 * k + 2) 0) (take 16 (drop (16 * k) subs)) (take 16 (drop (16 * k) others))
      true (gathered d.y d.u d.v w h (k % w) (k / w) (right (k / w) d.y)).neighbors (take 400 (drop (400 * k) coeffs)) n)

  same_count : take 16 (drop (16 * k) subs) ≡ take 16 (drop (16 * k) others) → count_in w h modes subs coeffs right k d ≡ count_in w h modes others coeffs right k d
  unfolding count_in count_at
  same_count e = rw e

  other-count : (get_or modes (3 * k) 0 ≡ 4 → ⊥) → count_in w h modes subs coeffs right k d ≡ count_in w h modes others coeffs right k d
  unfolding count_in count_at clipped_into made
  other-count n =
      rw
      (drawn-unread (get_or modes (3 * k) 0) (get_or modes (3 * k + 1) 0) (get_or modes (3 * k + 2) 0) (take 16 (drop (16 * k) subs)) (take 16 (drop (16 * k) others))
      true (gathered d.y d.u d.v w h (k % w) (k / w) (right (k / w) d.y)).neighbors (take 400 (drop (400 * k) coeffs)) n)

-- the sixteen bytes of macroblock k, by their elements
sixteen : (k : ℕ) (subs others : List ℕ) → length subs ≡ length others → ((i : ℕ) → i < 16 → get_or subs (16 * k + i) 0 ≡ get_or others (16 * k + i) 0)
    → take 16 (drop (16 * k) subs) ≡ take 16 (drop (16 * k) others)
sixteen k subs others e h =
    ext_get_or 0 (take 16 (drop (16 * k) subs)) (take 16 (drop (16 * k) others))
    (simp (length-take, length-drop, e))
    (λ i l.
    let b : i < 16 = omega (arith, length-take 16 (drop (16 * k) subs)) in
    get_or-take 16 (drop (16 * k) subs) i 0 b ∙ get_or-drop (16 * k) subs i 0 ∙ h i b ∙ sym (get_or-take 16 (drop (16 * k) others) i 0 b ∙ get_or-drop (16 * k) others i 0))

-- ---- the calls
module _ (w h : ℕ) (modes subs others : List ℕ) (same : SameB w h modes subs others) (coeffs : List ℤ) (y u v : List ℕ) where
  pub turn-unread : (right : ℕ → List ℕ → List ℕ) (k : ℕ) (d : Progress) → k < w * h
      → turn w h modes subs coeffs right k d ≡ turn w h modes others coeffs right k d
  turn-unread right k d l =
      ⊎_elim
      (λ e. same_turn w h modes subs others coeffs right k d (sixteen k subs others same.long (same.bytes k l e)))
      (other-turn w h modes subs others coeffs right k d)
      (is-or-not (get_or modes (3 * k) 0) 4)

  pub picture-unread : (right : ℕ → List ℕ → List ℕ) → picture w h modes subs coeffs right y u v ≡ picture w h modes others coeffs right y u v
  unfolding picture first
  picture-unread right =
      turns-ext (w * h) (turn w h modes subs coeffs right) (turn w h modes others coeffs right) (progress done 0 y u v) (λ k d l. turn-unread right k d l)

  pub still-unread : (given : List ℕ) → still_answer w h modes subs coeffs given y u v ≡ still_answer w h modes others coeffs given y u v
  unfolding still_answer
  still-unread given = rw (same.long, picture-unread (right_given given))

  pub alone-unread : alone_answer w h modes subs coeffs y u v ≡ alone_answer w h modes others coeffs y u v
  unfolding alone_answer
  alone-unread = rw (same.long, picture-unread (right_read w h))

  count-unread : (right : ℕ → List ℕ → List ℕ) (k : ℕ) (d : Progress) → k < w * h
      → count_in w h modes subs coeffs right k d ≡ count_in w h modes others coeffs right k d
  count-unread right k d l =
      ⊎_elim
      (λ e. same_count w h modes subs others coeffs right k d (sixteen k subs others same.long (same.bytes k l e)))
      (other-count w h modes subs others coeffs right k d)
      (is-or-not (get_or modes (3 * k) 0) 4)

  pub picture-counts-unread : (right : ℕ → List ℕ → List ℕ)
      → picture_clipped w h modes subs coeffs right y u v ≡ picture_clipped w h modes others coeffs right y u v
  unfolding picture_clipped first_clipped first
  picture-counts-unread right =
      total_ext (w * h) _ _ λ k l.
      count-unread right k (first w h modes subs coeffs right k y u v) l
      ∙ ap (λ (d : Progress). count_in w h modes others coeffs right k d)
      (turns-ext k (turn w h modes subs coeffs right) (turn w h modes others coeffs right) (progress done 0 y u v) (λ j d q. turn-unread right j d (omega arith)))

  pub still-count-unread : (given : List ℕ) → still_clipped w h modes subs coeffs given y u v ≡ still_clipped w h modes others coeffs given y u v
  unfolding still_clipped
  still-count-unread given = rw (same.long, picture-counts-unread (right_given given))

  pub alone-count-unread : alone_clipped w h modes subs coeffs y u v ≡ alone_clipped w h modes others coeffs y u v
  unfolding alone_clipped
  alone-count-unread = rw (same.long, picture-counts-unread (right_read w h))

  -- the whole answers of the calls: reply, index, planes and count
  pub still-told-unread : (given : List ℕ) → still_told w h modes subs coeffs given y u v ≡ still_told w h modes others coeffs given y u v
  still-told-unread given = λ i. (still-unread given i, still-count-unread given i)

  pub alone-told-unread : alone_told w h modes subs coeffs y u v ≡ alone_told w h modes others coeffs y u v
  alone-told-unread = λ i. (alone-unread i, alone-count-unread i)
