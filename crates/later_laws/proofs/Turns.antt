-- One call of a still: a finished macroblock at its turn and in the end.
--     row_of, column-of, above_before, left-before     a place by its raster index, and what comes before it
--     was-drawn          a finished macroblock is of a picture that was drawn
--     settled            its pixels are at every later turn what they are in the end
--     made-is            it is what the walkers make of its neighbours at its turn
--     given_made         two calls that give a macroblock the same have the same made of it, over any neighbours
-- Assumes nothing.
use Prim.Native.Nat.{ℕ, suc, ◌+◌, ◌-◌, ◌*◌, ◌/◌, ◌%◌, ◌<◌, ◌≤◌}
use mathlib.Core.Path.{◌≡◌, sym, ap, ◌∙◌}
use mathlib.Core.Bool.{true}
use mathlib.Core.List.{List}
use mathlib.Core.Logic.{inr, ⊎_elim, inl}
use native.Mathlib.Nat.{div-add-mod, mul-add-mod_self_left, mod-eq_of_lt, mul-add-div, div-eq_of_lt, add-zero, le_of_lt}
use native.Mathlib.Omega.{arith}
use lib.ListN.{length}
use Rattle.macroblock.specs.declared.neighbors.MbNeighbors.{MbNeighbors}
use Rattle.reconstruct.specs.Answers.{MbAnswer}
use Rattle.picture_limits.proofs.Accepted.{Within, Lengths}
use Rattle.drawing.specs.Drawn.{drawn}
use Rattle.canvas.specs.Into.{made}
use Rattle.still.specs.Picture.{Progress, first, picture}
use Rattle.still_laws.specs.Words.{Plane, in_y, in_u, in_v, side, plane_of, found_in, pixels_of, pixel_of, neighbors_at, luma_byte, chroma_byte, skip_byte, subs_at, coeffs_at, made_at, Finished}
use Rattle.still_laws.proofs.Digits.{macroblock-apart}
use Rattle.still_laws.proofs.First.{first-length, first-kept}
use Rattle.still_laws.proofs.Answered.{Answered, refused, drawn as pictured}
use Rattle.still_laws.proofs.Neighbors.{finished-neighbors}
use Rattle.later_laws.specs.Calls.{Given, SameAt, SamePixels}
use Rattle.later_laws.proofs.Edges.{SameBlock}
use Rattle.later_laws.proofs.Made.{around}

-- ---- a place by its raster index
pub row_of : (w s t : ℕ) → t < w → (w * s + t) / w ≡ s
row_of w s t h = let p : 0 < w = omega arith in rw (mul-add-div p s t, div-eq_of_lt h, add-zero)

pub column-of : (w s t : ℕ) → t < w → (w * s + t) % w ≡ t
column-of w s t h = mul-add-mod_self_left w s t ∙ mod-eq_of_lt h

-- the row above a macroblock's comes before it, and so does what stands left of it
pub above_before : (w k s t : ℕ) → k / w ≡ suc s → t < w → w * s + t < k
above_before w k s t e h =
    let f : w * suc s + k % w ≡ k = ap (λ (q : ℕ). w * q + k % w) (sym e) ∙ div-add-mod k w in
    omega arith

pub left-before : (w k t : ℕ) → k % w ≡ suc t → w * (k / w) + t < k
left-before w k t e = let f : w * (k / w) + k % w ≡ k = div-add-mod k w in omega arith

-- ---- where the right-hand pixels come from: the last macroblock of the row above, or elsewhere
abbrev pub Steady : ℕ → ℕ → (ℕ → List ℕ → List ℕ) → Type 0
Steady w h right =
    (r : ℕ) (l m : List ℕ) → length l ≡ 256 * (w * h) → length m ≡ 256 * (w * h) → suc r < h → SameBlock 16 w l m r (w - 1) → right (suc r) l ≡ right (suc r) m

-- ---- one call: `at k` are its planes before macroblock k
abbrev pub turn_of : ℕ → ℕ → (ℕ → List ℕ → List ℕ) → Given → ℕ → Progress
turn_of w h right a k = first w h a.modes a.subs a.coeffs right k a.y a.u a.v

abbrev pub AnsweredOf : ℕ → ℕ → (ℕ → List ℕ → List ℕ) → Given → Progress → Type 0
AnsweredOf w h right a d = Answered w h a.modes a.subs a.coeffs a.y a.u a.v right d

module _ (w h : ℕ) (right : ℕ → List ℕ → List ℕ) (a : Given) where
  abbrev at : ℕ → Progress
  at k = turn_of w h right a k

  -- a finished macroblock is of a picture that was drawn
  pub was-drawn : {d : Progress} → AnsweredOf w h right a d → (k : ℕ) → Finished w h d k
      → (Within w h 0 0) × (Lengths (length a.y) (length a.u) (length a.v) w h)
  was-drawn (refused n r) k f = absurd (⊎_elim r (λ l. omega arith) f.drawn)
  was-drawn (pictured size fits) k f = (size, fits)

  -- its pixels are at every later turn what they are in the end
  pub settled : {d : Progress} → AnsweredOf w h right a d → (k : ℕ) → Finished w h d k → (j : ℕ) → j < k → (p : Plane) → SamePixels p w j d (at k)
  unfolding picture
  settled (refused n r) k f j l p i x hi hx = absurd (⊎_elim r (λ l. omega arith) f.drawn)
  settled (pictured size fits) k f j l p i x hi hx =
      first-kept w h a.modes a.subs a.coeffs right a.y a.u a.v p (pixel_of p w j i x) k (w * h) (le_of_lt f.inside)
      (λ m s t _ u z hu hz e. let q : j ≡ m = macroblock-apart (side p) w j m i x u z size.column hi hx hu hz e in omega arith)

  -- what is before a finished macroblock is finished
  pub finished-before : {d : Progress} (k j : ℕ) → j ≤ k → Finished w h d k → Finished w h d j
  finished-before k j l f = record { inside = omega arith; drawn = ⊎_elim inl (λ g. inr (omega arith)) f.drawn }

  -- the walkers' answer, from the planes at its turn
  pub made-is : {d : Progress} → AnsweredOf w h right a d → (k : ℕ) → Finished w h d k
      → made_at w h a.modes a.subs a.coeffs right k (at k)
      ≡ drawn (luma_byte a.modes k) (chroma_byte a.modes k) (skip_byte a.modes k) (subs_at a.subs k) true
      (around w (k / w) (k % w) (at k) (right (k / w) (at k).y)) (coeffs_at a.coeffs k)
  unfolding made_at made neighbors_at
  made-is s k f =
      ap (λ n. drawn (luma_byte a.modes k) (chroma_byte a.modes k) (skip_byte a.modes k) (subs_at a.subs k) true n (coeffs_at a.coeffs k))
      (finished-neighbors w h a.modes a.subs a.coeffs right a.y a.u a.v s k f)

  pub turn-length : (k : ℕ) (p : Plane) → length (plane_of p (at k)) ≡ length (found_in p a.y a.u a.v)
  turn-length k p = first-length w h a.modes a.subs a.coeffs right a.y a.u a.v k p

pub some-side : (p : Plane) → 0 < side p
some-side in_y = omega arith
some-side in_u = omega arith
some-side in_v = omega arith

-- the planes of both have one length
pub one-length : (p : Plane) (w h : ℕ) (y u v s t q : List ℕ) → Lengths (length y) (length u) (length v) w h → Lengths (length s) (length t) (length q) w h
    → length (found_in p y u v) ≡ length (found_in p s t q)
one-length in_y w h y u v s t q k l = k.y-plane ∙ sym l.y-plane
one-length in_u w h y u v s t q k l = k.u-plane ∙ sym l.u-plane
one-length in_v w h y u v s t q k l = k.v-plane ∙ sym l.v-plane

-- a macroblock that is given the same, over the same neighbours
pub given-same : (a b : Given) (k : ℕ) (n : MbNeighbors) → SameAt a b k
    → drawn (luma_byte a.modes k) (chroma_byte a.modes k) (skip_byte a.modes k) (subs_at a.subs k) true n (coeffs_at a.coeffs k)
    ≡ drawn (luma_byte b.modes k) (chroma_byte b.modes k) (skip_byte b.modes k) (subs_at b.subs k) true n (coeffs_at b.coeffs k)
given-same a b k n s = rw (s.luma, s.chroma, s.skip, s.sub-blocks, s.coefficients)

-- the walkers make the same of macroblock j in the plane p, over any neighbours
abbrev pub SameMade : Plane → Given → Given → ℕ → Type 0
SameMade p a b j =
    (n : MbNeighbors)
    → pixels_of p (drawn (luma_byte a.modes j) (chroma_byte a.modes j) (skip_byte a.modes j) (subs_at a.subs j) true n (coeffs_at a.coeffs j))
    ≡ pixels_of p (drawn (luma_byte b.modes j) (chroma_byte b.modes j) (skip_byte b.modes j) (subs_at b.subs j) true n (coeffs_at b.coeffs j))

pub given_made : (p : Plane) (a b : Given) (j : ℕ) → SameAt a b j → SameMade p a b j
given_made p a b j s n = ap (λ (m : MbAnswer). pixels_of p m) (given-same a b j n s)
