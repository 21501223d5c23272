-- What a change of macroblock k cannot reach, of any answer of a still, `right` being where the right-hand pixels come from.
--     luma       the finished macroblocks above k's row, left of it in its row, and below it where c + (r - kr) < kc
--     chroma     those above its row, and in every column to its left
--     chroma-stays     all of chroma, where only luma coefficients of k are others
--     earlier    so all before k in raster order
-- Assumes nothing.
use Prim.Native.Nat.{ℕ, ◌+◌, ◌*◌, ◌/◌, ◌%◌, ◌<◌}
use mathlib.Core.Bool.{Bool, true, false}
use mathlib.Core.Path.{◌≡◌, refl, sym, ap, subst, ◌∙◌}
use mathlib.Core.List.{List}
use mathlib.Core.Logic.{◌⊎◌, inl, inr, ⊎_elim}
use native.Mathlib.Nat.{div-add-mod, eq-or-lt_of_le}
use native.Mathlib.Omega.{arith}
use borrow.Author.Tests.{eqb-true, eqb-false}
use lib.Dec.{eqb}
use Rattle.picture_limits.proofs.Accepted.{Within}
use Rattle.walker_laws.specs.Moves.{Untouched, UntouchedChroma, Closed, ClosedChroma}
use Rattle.walker_laws.proofs.Later.{untouched-closed, untouched-closed-chroma}
use Rattle.still.specs.Picture.{Progress}
use Rattle.still_laws.specs.Words.{Plane, in_y, in_u, in_v, luma_byte, chroma_byte, skip_byte, subs_at, coeffs_at, Finished}
use Rattle.still_laws.proofs.Digits.{rows-rise}
use Rattle.later_laws.specs.Calls.{Given, SameBut, SameChromaAt, SamePixels, ClosedIn, DrawnTo}
use Rattle.later_laws.proofs.Chroma.{drawn-chroma}
use Rattle.later_laws.proofs.Turns.{Steady, AnsweredOf, was-drawn, SameMade, given_made}
use Rattle.later_laws.proofs.Reached.{reached}

-- ---- three planes
u-is-not-y : in_u ≡ in_y → ⊥
u-is-not-y e = let z : ◌≡◌ {A = ℕ} 0 1 = cc in omega arith

v-is-not-y : in_v ≡ in_y → ⊥
v-is-not-y e = let z : ◌≡◌ {A = ℕ} 0 1 = cc in omega arith

-- ---- what the change at macroblock k cannot reach
luma-closed : (kr kc : ℕ) → ClosedIn in_y (Untouched kr kc)
luma-closed kr kc =
    let c : Closed (Untouched kr kc) = untouched-closed kr kc in
    record { left = c.left; above-left = c.above-left; above = c.above; above-right = λ p. c.above-right }

chroma-closed : (p : Plane) → (p ≡ in_y → ⊥) → (kr kc : ℕ) → ClosedIn p (UntouchedChroma kr kc)
chroma-closed p n kr kc =
    let c : ClosedChroma (UntouchedChroma kr kc) = untouched-closed-chroma kr kc in
    record { left = c.left; above-left = c.above-left; above = c.above; above-right = λ q. absurd (n q) }

not-k : (w k j : ℕ) → Untouched (k / w) (k % w) (j / w) (j % w) → j ≡ k → ⊥
not-k w k j u e =
    let f : j / w ≡ k / w = ap (λ (x : ℕ). x / w) e in
    let g : j % w ≡ k % w = ap (λ (x : ℕ). x % w) e in
    ⊎_elim (λ l. omega arith) (λ l. omega arith) u

not-k-chroma : (w k j : ℕ) → UntouchedChroma (k / w) (k % w) (j / w) (j % w) → j ≡ k → ⊥
not-k-chroma w k j u e =
    let f : j / w ≡ k / w = ap (λ (x : ℕ). x / w) e in
    let g : j % w ≡ k % w = ap (λ (x : ℕ). x % w) e in
    ⊎_elim (λ l. omega arith) (λ l. omega arith) u

all_closed : (p : Plane) → ClosedIn p (λ r c. Unit {0})
all_closed p = record { left = λ r c q. q; above-left = λ r c q. q; above = λ r c q. q; above-right = λ y r c q. q }

is-or-not : (a b : ℕ) → (a ≡ b) ⊎ (a ≡ b → ⊥)
is-or-not a b = by (eqb a b) refl
  where
    by : (t : Bool) → eqb a b ≡ t → (a ≡ b) ⊎ (a ≡ b → ⊥)
    by true e = inl (eqb-true a b e)
    by false e = inr (eqb-false a b e)

chroma-made : (p : Plane) → (p ≡ in_y → ⊥) → (a b : Given) (k : ℕ) → SameChromaAt a b k → SameMade p a b k
chroma-made p q a b k s n =
    rw (s.luma, s.chroma, s.skip, s.sub-blocks)
    (drawn-chroma p q n (coeffs_at a.coeffs k) (coeffs_at b.coeffs k) s.long s.coefficients (luma_byte b.modes k) (chroma_byte b.modes k)
    (skip_byte b.modes k) (subs_at b.subs k) true)

-- a macroblock before k in raster order is in an earlier row, or left of k in its row
before-in-row : (w k j : ℕ) → j < k → j / w ≡ k / w → j % w < k % w
before-in-row w k j l e =
    let f : w * (k / w) + j % w ≡ j = ap (λ (x : ℕ). w * x + j % w) (sym e) ∙ div-add-mod j w in
    let g : w * (k / w) + k % w ≡ k = div-add-mod k w in
    omega arith

raster : (w k j : ℕ) → 0 < w → j < k → Untouched (k / w) (k % w) (j / w) (j % w)
raster w k j h l =
    ⊎_elim (λ e. let f : j % w < k % w = before-in-row w k j l e in inr (omega arith)) inl (eq-or-lt_of_le (rows-rise w j k h (omega arith)))

raster-chroma : (w k j : ℕ) → 0 < w → j < k → UntouchedChroma (k / w) (k % w) (j / w) (j % w)
raster-chroma w k j h l = ⊎_elim (λ e. inr (before-in-row w k j l e)) inl (eq-or-lt_of_le (rows-rise w j k h (omega arith)))

-- ---- two answers
module _ (w h : ℕ) (right : ℕ → List ℕ → List ℕ) (steady : Within w h 0 0 → Steady w h right) (k : ℕ) (a b : Given) (only : SameBut k a b) (d e : Progress)
    (one : AnsweredOf w h right a d) (two : AnsweredOf w h right b e) where
  pub luma : (j : ℕ) → Finished w h d j → Finished w h e j → Untouched (k / w) (k % w) (j / w) (j % w) → SamePixels in_y w j d e
  luma j f g u =
      reached w h right steady a b d e one two in_y (Untouched (k / w) (k % w)) (luma-closed (k / w) (k % w)) (λ i q. given_made in_y a b i (only i (not-k w k i q))) j f g u

  pub chroma : (p : Plane) → (p ≡ in_y → ⊥) → (j : ℕ) → Finished w h d j → Finished w h e j → UntouchedChroma (k / w) (k % w) (j / w) (j % w) → SamePixels p w j d e
  chroma p n j f g u =
      reached w h right steady a b d e one two p (UntouchedChroma (k / w) (k % w)) (chroma-closed p n (k / w) (k % w)) (λ i q. given_made p a b i (only i (not-k-chroma w k i q))) j f g u

  -- where the walkers make the same chroma of k all the same, nothing of it moves
  pub chroma-stays : (p : Plane) → (p ≡ in_y → ⊥) → SameChromaAt a b k → (j : ℕ) → Finished w h d j → Finished w h e j → SamePixels p w j d e
  chroma-stays p n s j f g =
      reached w h right steady a b d e one two p (λ r c. Unit {0}) (all_closed p) (λ i q. by_place i) j f g tt
    where
      by_place : (i : ℕ) → SameMade p a b i
      by_place i = ⊎_elim (λ e. subst (λ (x : ℕ). SameMade p a b x) (sym e) (chroma-made p n a b k s)) (λ m. given_made p a b i (only i m)) (is-or-not i k)

  drawn-to : {d : Progress} (j : ℕ) → j < k → j < w * h → DrawnTo k d → Finished w h d j
  drawn-to j l m t = record { inside = m; drawn = ⊎_elim inl (λ q. inr (omega arith)) t }

  wide : (j : ℕ) → Finished w h d j → 0 < w
  wide j f = (was-drawn w h right a one j f).0.column

  pub earlier : DrawnTo k d → DrawnTo k e → (j : ℕ) → j < k → j < w * h → (p : Plane) → SamePixels p w j d e
  earlier s t j l m in_y =
      let f : Finished w h d j = drawn-to j l m s in
      luma j f (drawn-to j l m t) (raster w k j (wide j f) l)
  earlier s t j l m in_u =
      let f : Finished w h d j = drawn-to j l m s in
      chroma in_u u-is-not-y j f (drawn-to j l m t) (raster-chroma w k j (wide j f) l)
  earlier s t j l m in_v =
      let f : Finished w h d j = drawn-to j l m s in
      chroma in_v v-is-not-y j f (drawn-to j l m t) (raster-chroma w k j (wide j f) l)
