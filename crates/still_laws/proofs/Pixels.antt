-- What the planes of a still hold, of every answer, refused or not. At a finished macroblock's places they have the walkers' pixels, made over the planes that
-- the macroblocks before it left; at every other place, what the call found there.
--     finished-made      a finished macroblock was accepted by the walkers
--     finished-pixels    the pixels of a finished macroblock
--     unfinished         a byte that is no finished macroblock's
--     refused-keeps      a byte that is none of the macroblocks before a refused still's index
--     answer-length      the planes keep their lengths
--     still-*, alone-*   the same of the two calls
-- Assumes nothing.
use Prim.Native.Nat.{ℕ, suc, ◌+◌, ◌*◌, ◌/◌, ◌%◌, ◌<◌, ◌≤◌}
use mathlib.Core.Path.{◌≡◌, refl, sym, ap, ◌∙◌}
use mathlib.Core.List.{List}
use mathlib.Core.Logic.{⊎_elim}
use native.Mathlib.Nat.{mod-lt}
use native.Mathlib.Omega.{arith}
use lib.IntN.{ℤ}
use lib.ListN.{length, get_or}
use Rattle.lists.specs.Lists.{turns}
use Rattle.macroblock.specs.Reply.{done}
use Rattle.reconstruct.specs.Answers.{MbAnswer}
use Rattle.picture_limits.proofs.Accepted.{Lengths}
use Rattle.picture_limits.proofs.Bounds.{placed}
use Rattle.canvas.specs.Placed.{pixel_at}
use Rattle.canvas.proofs.Places.{row_at}
use Rattle.still.specs.Picture.{Progress, progress, first, picture, right_given, right_read}
use Rattle.still.specs.Answers.{still_answer, alone_answer}
use Rattle.still.proofs.Sizes.{row_within}
use Rattle.still_laws.specs.Words.{Plane, in_y, in_u, in_v, side, plane_of, found_in, pixels_of, pixel_of, Outside, made_at, Finished}
use Rattle.still_laws.proofs.Digits.{macroblock-apart}
use Rattle.still_laws.proofs.Block.{placed-inside}
use Rattle.still_laws.proofs.Step.{Step, stays, refuses, puts}
use Rattle.still_laws.proofs.First.{first_step, first-length, first-kept, finished-drawn, drawn-finished}
use Rattle.still_laws.proofs.Answered.{Answered, refused, drawn, still-answered, alone-answered}

-- ---- one turn
module _ {w k : ℕ} {m : MbAnswer} {d e : Progress} where
  step-made : Step w k m d e → e.reply ≡ 0 → m.reply ≡ 0
  step-made (stays n q) h = absurd (n (ap (λ (x : Progress). x.reply) (sym q) ∙ h))
  step-made (refuses z n i f) h = absurd (n h)
  step-made (puts z q o r f) h = r

  step-pixels : Step w k m d e → e.reply ≡ 0 → 0 < w → (p : Plane) (i x : ℕ) → i < side p → x < side p → pixel_of p w k i x < length (plane_of p d)
      → get_or (plane_of p e) (pixel_of p w k i x) 0 ≡ get_or (pixels_of p m) (side p * i + x) 0
  step-pixels (stays n q) h s p i x hi hx l = absurd (n (ap (λ (x : Progress). x.reply) (sym q) ∙ h))
  step-pixels (refuses z n q f) h s p i x hi hx l = absurd (n h)
  step-pixels (puts z q o r f) h s p i x hi hx l =
      ap (λ (t : List ℕ). get_or t (pixel_of p w k i x) 0) (f p)
      ∙ placed-inside (side p) w (k % w) (k / w) (pixels_of p m) (mod-lt k s) i x hi hx (plane_of p d) l

-- ---- a pixel of macroblock k lies in its plane
module _ (w h : ℕ) (y u v : List ℕ) (fits : Lengths (length y) (length u) (length v) w h) where
  squares : (p : Plane) → length (found_in p y u v) ≡ side p * side p * (w * h)
  squares in_y = fits.y-plane
  squares in_u = fits.u-plane
  squares in_v = fits.v-plane

  some-side : (p : Plane) → 1 ≤ side p
  some-side in_y = omega arith
  some-side in_u = omega arith
  some-side in_v = omega arith

  pub pixel-lies : (p : Plane) (k i x : ℕ) → 0 < w → k < w * h → i < side p → x < side p → pixel_of p w k i x < length (found_in p y u v)
  unfolding pixel_at
  pixel-lies p k i x s l hi hx =
      let a = placed (side p) (found_in p y u v) w h (k % w) (k / w) (some-side p) (mod-lt k s) (row_within k w h s l) (squares p) in
      let b = (row_at a i hi).whole in
      omega arith

as-found : (n : ℕ) (y u v : List ℕ) (p : Plane) → plane_of p (progress n 0 y u v) ≡ found_in p y u v
as-found n y u v in_y = refl
as-found n y u v in_u = refl
as-found n y u v in_v = refl

-- ---- an answer
module _ (w h : ℕ) (modes subs : List ℕ) (coeffs : List ℤ) (y u v : List ℕ) (right : ℕ → List ℕ → List ℕ) where
  -- what the walkers make of macroblock k at its turn
  abbrev at_turn : ℕ → MbAnswer
  at_turn k = made_at w h modes subs coeffs right k (first w h modes subs coeffs right k y u v)

  none-finished : (n k : ℕ) → (n ≡ 0 → ⊥) → Finished w h (progress n 0 y u v) k → ⊥
  none-finished n k r f = ⊎_elim r (λ l. omega arith) f.drawn

  pub finished-made : {d : Progress} → Answered w h modes subs coeffs y u v right d → (k : ℕ) → Finished w h d k → (at_turn k).reply ≡ done
  finished-made (refused n r) k f = absurd (none-finished n k r f)
  finished-made (drawn size fits) k f =
      step-made (first_step w h modes subs coeffs right y u v k) (finished-drawn w h modes subs coeffs right y u v k f)

  pub finished-pixels : {d : Progress} → Answered w h modes subs coeffs y u v right d → (k : ℕ) → Finished w h d k
      → (p : Plane) (i x : ℕ) → i < side p → x < side p → get_or (plane_of p d) (pixel_of p w k i x) 0 ≡ get_or (pixels_of p (at_turn k)) (side p * i + x) 0
  unfolding picture
  finished-pixels (refused n r) k f p i x hi hx = absurd (none-finished n k r f)
  finished-pixels (drawn size fits) k f p i x hi hx =
      let some : 0 < w = size.column in
      let lies : pixel_of p w k i x < length (found_in p y u v) = pixel-lies w h y u v fits p k i x some f.inside hi hx in
      first-kept w h modes subs coeffs right y u v p (pixel_of p w k i x) (suc k) (w * h) f.inside
      (λ j a b _ m z hm hz e. let s : k ≡ j = macroblock-apart (side p) w k j i x m z some hi hx hm hz e in omega arith)
      ∙ step-pixels (first_step w h modes subs coeffs right y u v k) (finished-drawn w h modes subs coeffs right y u v k f) some p i x hi hx
      (rw (first-length w h modes subs coeffs right y u v k p) lies)

  pub unfinished : {d : Progress} → Answered w h modes subs coeffs y u v right d → (p : Plane) (q : ℕ) → ((k : ℕ) → Finished w h d k → Outside p w k q)
      → get_or (plane_of p d) q 0 ≡ get_or (found_in p y u v) q 0
  unfolding picture first turns
  unfinished (refused n r) p q o = ap (λ (l : List ℕ). get_or l q 0) (as-found n y u v p)
  unfinished (drawn size fits) p q o =
      first-kept w h modes subs coeffs right y u v p q 0 (w * h) (omega arith)
      (λ j a b t. o j (drawn-finished w h modes subs coeffs right y u v j b t))

  -- a refused still, by its index
  pub refused-keeps : {d : Progress} → Answered w h modes subs coeffs y u v right d → (d.reply ≡ 0 → ⊥)
      → (p : Plane) (q : ℕ) → ((k : ℕ) → k < d.index → Outside p w k q) → get_or (plane_of p d) q 0 ≡ get_or (found_in p y u v) q 0
  refused-keeps a n p q o = unfinished a p q (λ k f. o k (⊎_elim (λ z. absurd (n z)) (λ l. l) f.drawn))

  pub answer-length : {d : Progress} → Answered w h modes subs coeffs y u v right d → (p : Plane) → length (plane_of p d) ≡ length (found_in p y u v)
  unfolding picture
  answer-length (refused n r) p = ap (λ (l : List ℕ). length l) (as-found n y u v p)
  answer-length (drawn size fits) p = first-length w h modes subs coeffs right y u v (w * h) p

-- ---- the two calls
module _ (w h : ℕ) (modes subs : List ℕ) (coeffs : List ℤ) (y u v : List ℕ) where
  module _ (given : List ℕ) where
    abbrev still : Progress
    still = still_answer w h modes subs coeffs given y u v

    pub still-pixels : (k : ℕ) → Finished w h still k → (p : Plane) (i x : ℕ) → i < side p → x < side p
        → get_or (plane_of p still) (pixel_of p w k i x) 0
        ≡ get_or (pixels_of p (made_at w h modes subs coeffs (right_given given) k (first w h modes subs coeffs (right_given given) k y u v))) (side p * i + x) 0
    still-pixels = finished-pixels w h modes subs coeffs y u v (right_given given) (still-answered w h modes subs coeffs y u v given)

    pub still-unfinished : (p : Plane) (q : ℕ) → ((k : ℕ) → Finished w h still k → Outside p w k q)
        → get_or (plane_of p still) q 0 ≡ get_or (found_in p y u v) q 0
    still-unfinished = unfinished w h modes subs coeffs y u v (right_given given) (still-answered w h modes subs coeffs y u v given)

  abbrev alone : Progress
  alone = alone_answer w h modes subs coeffs y u v

  pub alone-pixels : (k : ℕ) → Finished w h alone k → (p : Plane) (i x : ℕ) → i < side p → x < side p
      → get_or (plane_of p alone) (pixel_of p w k i x) 0
      ≡ get_or (pixels_of p (made_at w h modes subs coeffs (right_read w h) k (first w h modes subs coeffs (right_read w h) k y u v))) (side p * i + x) 0
  alone-pixels = finished-pixels w h modes subs coeffs y u v (right_read w h) (alone-answered w h modes subs coeffs y u v)

  pub alone-unfinished : (p : Plane) (q : ℕ) → ((k : ℕ) → Finished w h alone k → Outside p w k q)
      → get_or (plane_of p alone) q 0 ≡ get_or (found_in p y u v) q 0
  alone-unfinished = unfinished w h modes subs coeffs y u v (right_read w h) (alone-answered w h modes subs coeffs y u v)
