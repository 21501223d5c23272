-- Two pictures whose macroblocks before k are given the same.
--     same-reply       before k they finish and refuse the same macroblocks
--     same-finished    so what one has finished before k, the other has
--     same-pixels      with the same pixels
--     same_whole       and the walkers make the same of it, the count included
-- Assumes nothing.
use Prim.Native.Nat.{ℕ, zero, suc, ◌+◌, ◌*◌, ◌/◌, ◌%◌, ◌<◌, ◌≤◌}
use mathlib.Core.Path.{◌≡◌, refl, sym, ap, ◌∙◌}
use mathlib.Core.Bool.{Bool, true}
use mathlib.Core.List.{List}
use mathlib.Core.Logic.{◌⊎◌, inl, inr, ⊎_elim}
use native.Mathlib.Nat.{div-add-mod, le_of_lt}
use native.Mathlib.Omega.{arith}
use lib.ListN.{length}
use Rattle.lists.specs.Lists.{turns, pick}
use Rattle.macroblock.specs.Reply.{done, unknown_byte}
use Rattle.picture_limits.proofs.Accepted.{Within, Lengths}
use Rattle.reconstruct.specs.Answers.{MbAnswer}
use Rattle.drawing.specs.Drawn.{drawn}
use Rattle.still.specs.Picture.{Progress, first, picture}
use Rattle.still_laws.specs.Words.{luma_byte, chroma_byte, skip_byte, subs_at, coeffs_at, made_at, bytes_known, Finished, Plane}
use Rattle.still_laws.proofs.First.{first-refused, finished-drawn, drawn-finished}
use Rattle.still_laws.proofs.Answered.{drawn as pictured}
use Rattle.still_laws.proofs.Replies.{first-reply}
use Rattle.later_laws.specs.Calls.{Given, SameAt, SamePixels, ClosedIn}
use Rattle.later_laws.proofs.Made.{around, around-same}
use Rattle.later_laws.proofs.Turns.{Steady, turn_of, AnsweredOf, finished-before, made-is, given-same, given_made}
use Rattle.later_laws.proofs.Reached.{edges, reached}

pub zero_or_not : (n : ℕ) → (n ≡ 0) ⊎ (n ≡ 0 → ⊥)
zero_or_not zero = inl refl
zero_or_not (suc n) = inr (λ e. omega arith)

-- a call whose size and lengths fit
pub record Fitting (w h : ℕ) (a : Given) : Type 0 where
  pub size : Within w h 0 0
  pub planes : Lengths (length a.y) (length a.u) (length a.v) w h
  pub coefficients : length a.coeffs ≡ 400 * (w * h)

known_same : (a b : Given) (j : ℕ) → SameAt a b j → bytes_known a.modes a.subs j ≡ bytes_known b.modes b.subs j
unfolding bytes_known
known_same a b j s = rw (s.luma, s.chroma, s.skip, s.sub-blocks)

module _ (w h : ℕ) (right : ℕ → List ℕ → List ℕ) (a : Given) (fits : Fitting w h a) where
  reply-is : (n : ℕ) → n < w * h → (turn_of w h right a n).reply ≡ 0
      → (turn_of w h right a (suc n)).reply ≡ pick (bytes_known a.modes a.subs n) done unknown_byte
  reply-is n l z = first-reply w h a.modes a.subs a.coeffs right a.y a.u a.v fits.size fits.planes fits.coefficients n l z

  stays : (n : ℕ) → ((turn_of w h right a n).reply ≡ 0 → ⊥) → turn_of w h right a (suc n) ≡ turn_of w h right a n
  stays n r = first-refused w h a.modes a.subs a.coeffs right a.y a.u a.v n (suc n) (omega arith) r

module _ (w h : ℕ) (right : ℕ → List ℕ → List ℕ) (a b : Given) (one : Fitting w h a) (two : Fitting w h b)
    (k : ℕ) (inside : k ≤ w * h) (same : (j : ℕ) → j < k → SameAt a b j) where
  pub same-reply : (n : ℕ) → n ≤ k → (turn_of w h right a n).reply ≡ (turn_of w h right b n).reply
  unfolding first turns
  same-reply zero l = refl
  same-reply (suc n) l =
      let e : (turn_of w h right a n).reply ≡ (turn_of w h right b n).reply = same-reply n (omega arith) in
      ⊎_elim
      (λ z.
      reply-is w h right a one n (omega arith) z ∙ ap (λ (t : Bool). pick t done unknown_byte) (known_same a b n (same n l))
      ∙ sym (reply-is w h right b two n (omega arith) (sym e ∙ z)))
      (λ r.
      ap (λ (d : Progress). d.reply) (stays w h right a one n r) ∙ e ∙ sym (ap (λ (d : Progress). d.reply) (stays w h right b two n (λ z. r (e ∙ z)))))
      (zero_or_not (turn_of w h right a n).reply)

  abbrev d : Progress
  d = picture w h a.modes a.subs a.coeffs right a.y a.u a.v

  abbrev e : Progress
  e = picture w h b.modes b.subs b.coeffs right b.y b.u b.v

  pub same-finished : (j : ℕ) → j < k → Finished w h d j → Finished w h e j
  same-finished j l f =
      drawn-finished w h b.modes b.subs b.coeffs right b.y b.u b.v j f.inside
      (sym (same-reply (suc j) l) ∙ finished-drawn w h a.modes a.subs a.coeffs right a.y a.u a.v j f)

  -- ---- the pixels
  abbrev Earlier : ℕ → ℕ → Type 0
  Earlier r c = w * r + c < k

  some : 0 < w
  some = one.size.column

  earlier-closed : (p : Plane) → ClosedIn p Earlier
  earlier-closed p =
      record {
        left = λ r c l. omega arith;
        above-left = λ r c l. omega arith;
        above = λ r c l. omega arith;
        above-right = λ q r c l. (let s : 0 < w = some in omega arith);
      }

  by_place : (j : ℕ) → w * (j / w) + j % w ≡ j
  by_place j = div-add-mod j w

  answered : AnsweredOf w h right a d
  answered = pictured one.size one.planes

  answered-too : AnsweredOf w h right b e
  answered-too = pictured two.size two.planes

  module _ (steady : Within w h 0 0 → Steady w h right) where
    pub same-pixels : (j : ℕ) → j < k → Finished w h d j → (p : Plane) → SamePixels p w j d e
    same-pixels j l f p =
        reached w h right steady a b d e answered answered-too p Earlier (earlier-closed p) (λ i q. given_made p a b i (same i (rw (by_place i) at q))) j f (same-finished j l f)
        (rw (by_place j) l)

    -- ---- what the walkers make
    abbrev made-a : ℕ → MbAnswer
    made-a j = made_at w h a.modes a.subs a.coeffs right j (turn_of w h right a j)

    abbrev made-b : ℕ → MbAnswer
    made-b j = made_at w h b.modes b.subs b.coeffs right j (turn_of w h right b j)

    pub same_whole : (j : ℕ) → j < k → Finished w h d j → made-a j ≡ made-b j
    same_whole j l f =
        let g : Finished w h e j = same-finished j l f in
        made-is w h right a answered j f
        ∙ ap
        (λ n. drawn (luma_byte a.modes j) (chroma_byte a.modes j) (skip_byte a.modes j) (subs_at a.subs j) true n (coeffs_at a.coeffs j))
        (around-same w (j / w) (j % w) (turn_of w h right a j) (right (j / w) (turn_of w h right a j).y) (turn_of w h right b j) (right (j / w) (turn_of w h right b j).y)
        (λ p. edges w h right steady a b d e answered answered-too p Earlier (earlier-closed p) j f g (rw (by_place j) l)
        (λ i t u. same-pixels i (omega arith) (finished-before w h right a j i (le_of_lt t) f) p)))
        ∙ given-same a b j (around w (j / w) (j % w) (turn_of w h right b j) (right (j / w) (turn_of w h right b j).y)) (same j l)
        ∙ sym (made-is w h right b answered-too j g)
