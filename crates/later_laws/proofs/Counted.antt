-- What a still counts before macroblock k.
--     count-made, count-refused     a macroblock that has its turn counts what the walkers counted, and none where it is refused
--     same_count                    two calls that are given the same before k count the same before k
--     counted-part, counted-all     what is counted before k is part of the picture's count, and all of it where macroblock k is refused
-- Assumes nothing.
use Prim.Native.Nat.{ℕ, suc, ◌+◌, ◌-◌, ◌*◌, ◌/◌, ◌%◌, ◌<◌, ◌≤◌}
use mathlib.Core.Path.{◌≡◌, sym, ap, ◌∙◌}
use mathlib.Core.Bool.{true}
use mathlib.Core.List.{List}
use mathlib.Core.Logic.{⊎_elim}
use native.Mathlib.Nat.{le_of_lt}
use native.Mathlib.Omega.{arith}
use borrow.Author.Tests.{eq-eqb, ne_eqb}
use Rattle.lists.specs.Lists.{turns, total}
use Rattle.lists.proofs.Total.{total_ext, total-add, total-none}
use Rattle.macroblock.specs.Reply.{done}
use Rattle.picture_limits.proofs.Accepted.{Within}
use Rattle.reconstruct.specs.Answers.{MbAnswer}
use Rattle.gathering.specs.Answers.{gathered}
use Rattle.canvas.specs.Into.{made, clipped_into}
use Rattle.still.specs.Picture.{Progress, first, picture, count_at, count_in, first_clipped, picture_clipped}
use Rattle.still_laws.specs.Words.{luma_byte, chroma_byte, skip_byte, subs_at, coeffs_at, made_at, Finished}
use Rattle.still_laws.proofs.First.{first_step, step-accepted, first-refused, drawn-finished}
use Rattle.still_laws.proofs.Neighbors.{gathers-all, place, lengths-at}
use Rattle.still_laws.proofs.Known.{turn-reply}
use Rattle.later_laws.specs.Calls.{Given, SameAt}
use Rattle.drawing.proofs.Unread.{drawn-refused-counts-nothing}
use Rattle.later_laws.proofs.Turns.{Steady, turn_of}
use Rattle.later_laws.proofs.Before.{zero_or_not, Fitting, same-reply, same_whole}

-- ---- one macroblock
module _ (w h : ℕ) (right : ℕ → List ℕ → List ℕ) (a : Given) (fits : Fitting w h a) where
  abbrev made_of : ℕ → MbAnswer
  made_of n = made_at w h a.modes a.subs a.coeffs right n (turn_of w h right a n)

  abbrev count_of : ℕ → ℕ
  count_of n = count_in w h a.modes a.subs a.coeffs right n (turn_of w h right a n)

  gathers : (n : ℕ) → n < w * h
      → (gathered (turn_of w h right a n).y (turn_of w h right a n).u (turn_of w h right a n).v w h (n % w) (n / w) (right (n / w) (turn_of w h right a n).y)).reply ≡ done
  gathers n l =
      gathers-all w h right n (turn_of w h right a n) (place w h a.modes a.subs a.coeffs right a.y a.u a.v fits.size n l)
      (lengths-at w h a.modes a.subs a.coeffs right a.y a.u a.v fits.planes n)

  -- once one is refused, nothing is counted
  pub count-ended : (n : ℕ) → ((turn_of w h right a n).reply ≡ 0 → ⊥) → count_of n ≡ 0
  unfolding count_in
  count-ended n r = rw (ne_eqb (turn_of w h right a n).reply 0 r)

  -- a macroblock that has its turn counts what the walkers counted, and none where it is refused
  pub count-made : (n : ℕ) → n < w * h → (turn_of w h right a n).reply ≡ 0 → count_of n ≡ (made_of n).clipped
  unfolding count_in count_at clipped_into made_at
  count-made n l z = rw (eq-eqb (turn_of w h right a n).reply 0 z, eq-eqb _ 0 (gathers n l))

  pub count-refused : (n : ℕ) → n < w * h → ((turn_of w h right a (suc n)).reply ≡ 0 → ⊥) → count_of n ≡ 0
  unfolding first turns made_at made
  count-refused n l r =
      ⊎_elim
      (λ z.
      count-made n l z
      ∙ drawn-refused-counts-nothing (luma_byte a.modes n) (chroma_byte a.modes n) (skip_byte a.modes n) (subs_at a.subs n) true _ (coeffs_at a.coeffs n)
      (λ q. r (turn-reply w h a.modes a.subs a.coeffs right n (turn_of w h right a n) z (gathers n l) ∙ q)))
      (λ q. count-ended n q)
      (zero_or_not (turn_of w h right a n).reply)

-- ---- two calls
module _ (w h : ℕ) (right : ℕ → List ℕ → List ℕ) (steady : Within w h 0 0 → Steady w h right) (a b : Given) (one : Fitting w h a) (two : Fitting w h b)
    (k : ℕ) (inside : k ≤ w * h) (same : (j : ℕ) → j < k → SameAt a b j) where
  same-counted : (j : ℕ) → j < k → count_of w h right a one j ≡ count_of w h right b two j
  same-counted j l =
      let m : j < w * h = omega arith in
      let t : (turn_of w h right a (suc j)).reply ≡ (turn_of w h right b (suc j)).reply = same-reply w h right a b one two k inside same (suc j) l in
      ⊎_elim
      (λ z.
      let f : Finished w h (picture w h a.modes a.subs a.coeffs right a.y a.u a.v) j = drawn-finished w h a.modes a.subs a.coeffs right a.y a.u a.v j m z in
      let q : (turn_of w h right a j).reply ≡ 0 = step-accepted (first_step w h a.modes a.subs a.coeffs right a.y a.u a.v j) z in
      count-made w h right a one j m q ∙ ap (λ (x : MbAnswer). x.clipped) (same_whole w h right a b one two k inside same steady j l f)
      ∙ sym (count-made w h right b two j m (sym (same-reply w h right a b one two k inside same j (le_of_lt l)) ∙ q)))
      (λ r. count-refused w h right a one j m r ∙ sym (count-refused w h right b two j m (λ z. r (t ∙ z))))
      (zero_or_not (turn_of w h right a (suc j)).reply)

  pub same_count : first_clipped w h a.modes a.subs a.coeffs right k a.y a.u a.v
      ≡ first_clipped w h b.modes b.subs b.coeffs right k b.y b.u b.v
  unfolding first_clipped
  same_count = total_ext k _ _ same-counted

-- ---- what is counted before k, and the count of the picture
module _ (w h : ℕ) (right : ℕ → List ℕ → List ℕ) (a : Given) (fits : Fitting w h a) (k : ℕ) (inside : k ≤ w * h) where
  abbrev counted : ℕ
  counted = first_clipped w h a.modes a.subs a.coeffs right k a.y a.u a.v

  abbrev all : ℕ
  all = picture_clipped w h a.modes a.subs a.coeffs right a.y a.u a.v

  abbrev whole : Progress
  whole = picture w h a.modes a.subs a.coeffs right a.y a.u a.v

  abbrev rest : ℕ
  rest = total (w * h - k) (λ i. count_of w h right a fits (k + i))

  in_two : all ≡ counted + rest
  unfolding picture_clipped first_clipped
  in_two =
      let e : w * h ≡ k + (w * h - k) = omega arith in
      ap (λ (m : ℕ). total m (count_of w h right a fits)) e ∙ total-add k (w * h - k) (count_of w h right a fits)

  pub counted-part : counted ≤ all
  counted-part = let e : all ≡ counted + rest = in_two in omega arith

  -- macroblock k is refused: it ends the drawing
  pub counted-all : k < w * h → (whole.reply ≡ 0 → ⊥) → whole.index ≡ k → all ≡ counted
  counted-all l r i =
      let refused : (turn_of w h right a (suc k)).reply ≡ 0 → ⊥ =
      λ z.
      let f : Finished w h whole k = drawn-finished w h a.modes a.subs a.coeffs right a.y a.u a.v k l z in
      ⊎_elim r (λ q. omega arith) f.drawn
      in
      let none : rest ≡ 0 =
      total_ext (w * h - k) _ (λ i. 0)
      (λ j m.
      let s = first-refused w h a.modes a.subs a.coeffs right a.y a.u a.v (suc k) (suc (k + j)) (omega arith) refused in
      count-refused w h right a fits (k + j) (omega arith) (λ z. refused (ap (λ (d : Progress). d.reply) (sym s) ∙ z)))
      ∙ total-none (w * h - k)
      in
      in_two ∙ rw none (omega arith)
