-- The first n macroblocks of a still.
--     first_step       turn n, from the first n to the first n + 1
--     first-length     the planes keep their lengths
--     first-kept       a byte that is none of the macroblocks that were drawn from k to m - 1 is after the first m as after the first k
--     first-refused    a refusal stays
--     index-before     the refused macroblock is one of those that had their turn
--     index-none       where none is refused, the index is 0
--     drawn-before     a macroblock that was drawn comes before the refused one
--     finished-drawn, drawn-finished     a macroblock is finished exactly where it was drawn
-- Assumes nothing.
use Prim.Native.Nat.{ℕ, zero, suc, ◌*◌, ◌<◌, ◌≤◌}
use mathlib.Core.Path.{◌≡◌, refl, sym, ap, subst, ◌∙◌}
use mathlib.Core.List.{List}
use mathlib.Core.Logic.{◌⊎◌, inl, inr, ⊎_elim}
use native.Mathlib.Nat.{eq-or-lt_of_le, le_of_suc-le-suc}
use native.Mathlib.Omega.{arith}
use lib.IntN.{ℤ}
use lib.ListN.{length, get_or}
use Rattle.lists.specs.Lists.{turns}
use Rattle.macroblock.specs.Reply.{done}
use Rattle.reconstruct.specs.Answers.{MbAnswer}
use Rattle.still.specs.Picture.{Progress, progress, turn, first, picture}
use Rattle.still_laws.specs.Words.{Plane, plane_of, found_in, Outside, made_at, Finished}
use Rattle.still_laws.proofs.Settled.{turns-settled}
use Rattle.still_laws.proofs.Step.{Step, stays, refuses, puts, step, step-length, step-outside}

zero_or_not : (n : ℕ) → (n ≡ 0) ⊎ (n ≡ 0 → ⊥)
zero_or_not zero = inl refl
zero_or_not (suc n) = inr (λ e. omega arith)

-- ---- one turn
module _ {w k : ℕ} {m : MbAnswer} {d e : Progress} where
  -- once refused, nothing changes
  step-refused : Step w k m d e → (d.reply ≡ 0 → ⊥) → e ≡ d
  step-refused (stays n q) h = q
  step-refused (refuses z n i f) h = absurd (h z)
  step-refused (puts z q o r f) h = absurd (h z)

  -- a turn that refuses gives its own index
  pub step-index : Step w k m d e → (e.reply ≡ 0 → ⊥) → d.reply ≡ 0 → e.index ≡ k
  step-index (stays n q) h z = absurd (n z)
  step-index (refuses z n i f) h _ = i
  step-index (puts z q o r f) h _ = absurd (h q)

  -- a turn that keeps the reply 0 puts
  pub step-accepted : Step w k m d e → e.reply ≡ 0 → d.reply ≡ 0
  step-accepted (stays n q) h = absurd (n (ap (λ (x : Progress). x.reply) (sym q) ∙ h))
  step-accepted (refuses z n i f) h = z
  step-accepted (puts z q o r f) h = z

  step-zero : Step w k m d e → e.reply ≡ 0 → e.index ≡ 0
  step-zero (stays n q) h = absurd (n (ap (λ (x : Progress). x.reply) (sym q) ∙ h))
  step-zero (refuses z n i f) h = absurd (n h)
  step-zero (puts z q o r f) h = o

module _ (w h : ℕ) (modes subs : List ℕ) (coeffs : List ℤ) (right : ℕ → List ℕ → List ℕ) (y u v : List ℕ) where
  abbrev at : ℕ → Progress
  at n = first w h modes subs coeffs right n y u v

  -- macroblock k was drawn
  abbrev pub Drawn : ℕ → Type 0
  Drawn k = (at (suc k)).reply ≡ 0

  pub first_step : (n : ℕ) → Step w n (made_at w h modes subs coeffs right n (at n)) (at n) (at (suc n))
  unfolding first turns
  first_step n = step w h modes subs coeffs right n (at n)

  pub first-length : (n : ℕ) (p : Plane) → length (plane_of p (at n)) ≡ length (found_in p y u v)
  unfolding first turns
  first-length zero p = refl
  first-length (suc n) p = step-length (first_step n) p ∙ first-length n p

  pub first-kept : (p : Plane) (q k m : ℕ) → k ≤ m → ((j : ℕ) → k ≤ j → j < m → Drawn j → Outside p w j q)
      → get_or (plane_of p (at m)) q 0 ≡ get_or (plane_of p (at k)) q 0
  unfolding first turns
  first-kept p q k m l o =
      turns-settled (λ (d : Progress). get_or (plane_of p d) q 0) (turn w h modes subs coeffs right) (progress done 0 y u v) k m l
      (λ j a b. step-outside (step w h modes subs coeffs right j (at j)) p q (o j a b))

  pub first-refused : (k m : ℕ) → k ≤ m → ((at k).reply ≡ 0 → ⊥) → at m ≡ at k
  first-refused k zero l n = let e : k ≡ 0 = omega arith in rw e
  first-refused k (suc m) l n =
      ⊎_elim (λ e. rw e)
      (λ q.
      let s : at m ≡ at k = first-refused k m (le_of_suc-le-suc q) n in
      step-refused (first_step m) (λ z. n (ap (λ (x : Progress). x.reply) (sym s) ∙ z)) ∙ s)
      (eq-or-lt_of_le l)

  pub index-before : (n : ℕ) → ((at n).reply ≡ 0 → ⊥) → (at n).index < n
  unfolding first turns
  index-before zero r = absurd (r refl)
  index-before (suc n) r =
      ⊎_elim
      (λ z. let i : (at (suc n)).index ≡ n = step-index (first_step n) r z in omega arith)
      (λ q.
      let s : at (suc n) ≡ at n = step-refused (first_step n) q in
      let i : (at n).index < n = index-before n q in
      let t : (at (suc n)).index ≡ (at n).index = ap (λ (x : Progress). x.index) s in
      omega arith)
      (zero_or_not (at n).reply)

  pub index-none : (n : ℕ) → (at n).reply ≡ 0 → (at n).index ≡ 0
  unfolding first turns
  index-none zero r = refl
  index-none (suc n) r = step-zero (first_step n) r

  pub drawn-before : (k n : ℕ) → Drawn k → k < n → ((at n).reply ≡ 0 → ⊥) → k < (at n).index
  drawn-before k zero a l r = absurd (omega arith)
  drawn-before k (suc n) a l r =
      ⊎_elim
      (λ z.
      let i : (at (suc n)).index ≡ n = step-index (first_step n) r z in
      ⊎_elim (λ e. absurd (r (subst (λ (t : ℕ). (at t).reply ≡ 0) e a))) (λ q. omega arith) (eq-or-lt_of_le l))
      (λ q.
      let s : at (suc n) ≡ at n = step-refused (first_step n) q in
      let t : (at (suc n)).index ≡ (at n).index = ap (λ (x : Progress). x.index) s in
      ⊎_elim (λ e. absurd (r (subst (λ (t : ℕ). (at t).reply ≡ 0) e a)))
      (λ p. let i : k < (at n).index = drawn-before k n a (le_of_suc-le-suc p) q in omega arith) (eq-or-lt_of_le l))
      (zero_or_not (at n).reply)

  abbrev whole : Progress
  whole = picture w h modes subs coeffs right y u v

  pub finished-drawn : (k : ℕ) → Finished w h whole k → Drawn k
  unfolding picture
  finished-drawn k f =
      ⊎_elim (λ z. z)
      (λ r.
      let s : at (w * h) ≡ at (suc k) = first-refused (suc k) (w * h) f.inside r in
      let i : (at (suc k)).index < suc k = index-before (suc k) r in
      let t : (at (w * h)).index ≡ (at (suc k)).index = ap (λ (x : Progress). x.index) s in
      ⊎_elim (λ z. absurd (r (ap (λ (x : Progress). x.reply) (sym s) ∙ z))) (λ l. absurd (omega arith)) f.drawn)
      (zero_or_not (at (suc k)).reply)

  pub drawn-finished : (k : ℕ) → k < w * h → Drawn k → Finished w h whole k
  unfolding picture
  drawn-finished k l a =
      record { inside = l; drawn = ⊎_elim inl (λ r. inr (drawn-before k (w * h) a l r)) (zero_or_not (at (w * h)).reply) }
