-- Two answers of a still call are the same, in one plane, at each macroblock of a closed set of which the walkers make the same, where both have finished it.
--     edges       the edges of such a macroblock are the same at its turn
--     reached     and so is the macroblock
-- Assumes nothing.
use Prim.Native.Nat.{ℕ, zero, suc, ◌+◌, ◌-◌, ◌*◌, ◌/◌, ◌%◌, ◌<◌, ◌≤◌}
use mathlib.Core.Path.{◌≡◌, refl, sym, ap, subst, ◌∙◌}
use mathlib.Core.Bool.{true}
use mathlib.Core.List.{List, []}
use native.Mathlib.Nat.{mod-lt, le_of_lt}
use native.Mathlib.Omega.{arith}
use lib.ListN.{length, get_or}
use Rattle.reconstruct.specs.Answers.{MbAnswer}
use Rattle.picture_limits.proofs.Accepted.{Within}
use Rattle.still.specs.Picture.{Progress}
use Rattle.still.proofs.Sizes.{row_within}
use Rattle.still_laws.specs.Words.{Plane, in_y, in_u, in_v, side, plane_of, pixels_of, luma_byte, chroma_byte, skip_byte, subs_at, coeffs_at, made_at, Finished}
use Rattle.still_laws.proofs.Pixels.{finished-pixels}
use Rattle.later_laws.specs.Calls.{Given, SamePixels, ClosedIn}
use Rattle.later_laws.proofs.Edges.{SameBlock, left-same, row_same}
use Rattle.later_laws.proofs.Made.{SameEdges, row_in, around, drawn-pixels}
use Rattle.later_laws.proofs.Turns.{row_of, column-of, above_before, left-before, Steady, turn_of, AnsweredOf, was-drawn, settled, finished-before, made-is, turn-length, some-side, one-length, SameMade}

-- ---- the row above in a plane: only luma's goes on to the right
rows_same : (p : Plane) (w r c : ℕ) (d e : Progress) (right other : List ℕ) → c < w
    → ((s t : ℕ) → r ≡ suc s → c ≡ suc t → SameBlock (side p) w (plane_of p d) (plane_of p e) s t)
    → ((s : ℕ) → r ≡ suc s → SameBlock (side p) w (plane_of p d) (plane_of p e) s c)
    → (p ≡ in_y → (s : ℕ) → r ≡ suc s → c + 1 < w → SameBlock (side p) w (plane_of p d) (plane_of p e) s (suc c))
    → (p ≡ in_y → (s : ℕ) → r ≡ suc s → w ≤ c + 1 → right ≡ other)
    → row_in p d w c r right ≡ row_in p e w c r other
rows_same in_y w r c d e right other i corner over beside given =
    row_same 16 w d.y e.y right other 21 r c (omega arith) (omega arith) i corner over (λ _. beside refl) (λ _. given refl)
rows_same in_u w r c d e right other i corner over beside given =
    row_same 8 w d.u e.u [] [] 9 r c (omega arith) (omega arith) i corner over (λ q. absurd (omega arith)) (λ q. absurd (omega arith))
rows_same in_v w r c d e right other i corner over beside given =
    row_same 8 w d.v e.v [] [] 9 r c (omega arith) (omega arith) i corner over (λ q. absurd (omega arith)) (λ q. absurd (omega arith))

-- ---- two calls, one plane, a closed set P
module _ (w h : ℕ) (right : ℕ → List ℕ → List ℕ) (steady : Within w h 0 0 → Steady w h right) (a b : Given) (d e : Progress)
    (one : AnsweredOf w h right a d) (two : AnsweredOf w h right b e) where
  -- macroblock k is finished in both; those of P before it are the same
  module _ (p : Plane) (P : ℕ → ℕ → Type 0) (closed : ClosedIn p P) (k : ℕ) (f : Finished w h d k) (g : Finished w h e k) (here : P (k / w) (k % w))
      (earlier : (j : ℕ) → j < k → P (j / w) (j % w) → SamePixels p w j d e) where
    abbrev before : Progress
    before = turn_of w h right a k

    abbrev other : Progress
    other = turn_of w h right b k

    some : 0 < w
    some = (was-drawn w h right a one k f).0.column

    long : length (plane_of p before) ≡ length (plane_of p other)
    long =
        turn-length w h right a k p
        ∙ one-length p w h a.y a.u a.v b.y b.u b.v (was-drawn w h right a one k f).1 (was-drawn w h right b two k g).1
        ∙ sym (turn-length w h right b k p)

    block : (s t : ℕ) → t < w → w * s + t < k → P s t → SameBlock (side p) w (plane_of p before) (plane_of p other) s t
    block s t ht l q i x hi hx =
        rw (row_of w s t ht, column-of w s t ht)
        at (sym (settled w h right a one k f (w * s + t) l p i x hi hx)
        ∙ earlier (w * s + t) l (rw (row_of w s t ht, column-of w s t ht) q) i x hi hx
        ∙ settled w h right b two k g (w * s + t) l p i x hi hx)

    -- the place itself, by the row above it and by the column to its left
    in_row : (s : ℕ) → k / w ≡ suc s → P (suc s) (k % w)
    in_row s q = subst (λ (x : ℕ). P x (k % w)) q here

    in-column : (t : ℕ) → k % w ≡ suc t → P (k / w) (suc t)
    in-column t q = subst (λ (x : ℕ). P (k / w) x) q here

    in_both : (s t : ℕ) → k / w ≡ suc s → k % w ≡ suc t → P (suc s) (suc t)
    in_both s t q r = subst (λ (x : ℕ). P (suc s) x) r (in_row s q)

    above-block : (s : ℕ) → k / w ≡ suc s → SameBlock (side p) w (plane_of p before) (plane_of p other) s (k % w)
    above-block s q = block s (k % w) (mod-lt k some) (above_before w k s (k % w) q (mod-lt k some)) (closed.above s (k % w) (in_row s q))

    left-block : (t : ℕ) → k % w ≡ suc t → SameBlock (side p) w (plane_of p before) (plane_of p other) (k / w) t
    left-block t q =
        block (k / w) t (let m : k % w < w = mod-lt k some in omega arith) (left-before w k t q) (closed.left (k / w) t (in-column t q))

    corner-block : (s t : ℕ) → k / w ≡ suc s → k % w ≡ suc t → SameBlock (side p) w (plane_of p before) (plane_of p other) s t
    corner-block s t q r =
        let m : t < w = (let n : k % w < w = mod-lt k some in omega arith) in
        block s t m (above_before w k s t q m) (closed.above-left s t (in_both s t q r))

    right-block : p ≡ in_y → (s : ℕ) → k / w ≡ suc s → k % w + 1 < w → SameBlock (side p) w (plane_of p before) (plane_of p other) s (suc (k % w))
    right-block y s q l =
        let m : suc (k % w) < w = omega arith in
        block s (suc (k % w)) m (above_before w k s (suc (k % w)) q m) (closed.above-right y s (k % w) (in_row s q))

    -- luma's right-hand pixels, in the last column
    in-luma : (s t : ℕ) → p ≡ in_y → SameBlock (side p) w (plane_of p before) (plane_of p other) s t → SameBlock 16 w before.y other.y s t
    in-luma s t y q = subst (λ (z : Plane). SameBlock (side z) w (plane_of z before) (plane_of z other) s t) y q

    lent : p ≡ in_y → (s : ℕ) → k / w ≡ suc s → w ≤ k % w + 1 → right (k / w) before.y ≡ right (k / w) other.y
    lent y s q l =
        let m : k % w < w = mod-lt k some in
        let last : k % w ≡ w - 1 = omega arith in
        let inside : k / w < h = row_within k w h some f.inside in
        rw q
        (steady (was-drawn w h right a one k f).0 s before.y other.y
        (turn-length w h right a k in_y ∙ (was-drawn w h right a one k f).1.y-plane)
        (turn-length w h right b k in_y ∙ (was-drawn w h right b two k g).1.y-plane) (omega arith)
        (subst (λ (x : ℕ). SameBlock 16 w before.y other.y s x) last (in-luma s (k % w) y (above-block s q))))

    pub edges : SameEdges p w (k / w) (k % w) before (right (k / w) before.y) other (right (k / w) other.y)
    edges =
        record {
          row =
              rows_same p w (k / w) (k % w) before other (right (k / w) before.y) (right (k / w) other.y) (mod-lt k some) corner-block above-block right-block lent;
          left = left-same (side p) w (plane_of p before) (plane_of p other) (some-side p) (k / w) (k % w) left-block;
        }

    same-made : SameMade p a b k
        → pixels_of p (made_at w h a.modes a.subs a.coeffs right k before) ≡ pixels_of p (made_at w h b.modes b.subs b.coeffs right k other)
    same-made s =
        ap (λ (m : MbAnswer). pixels_of p m) (made-is w h right a one k f)
        ∙ drawn-pixels w (k / w) (k % w) before (right (k / w) before.y) other (right (k / w) other.y) p edges
        (luma_byte a.modes k) (chroma_byte a.modes k) (skip_byte a.modes k) (subs_at a.subs k) true (coeffs_at a.coeffs k)
        ∙ s (around w (k / w) (k % w) other (right (k / w) other.y))
        ∙ sym (ap (λ (m : MbAnswer). pixels_of p m) (made-is w h right b two k g))

    same_here : SameMade p a b k → SamePixels p w k d e
    same_here s i x hi hx =
        finished-pixels w h a.modes a.subs a.coeffs a.y a.u a.v right one k f p i x hi hx
        ∙ ap (λ (l : List ℕ). get_or l (side p * i + x) 0) (same-made s)
        ∙ sym (finished-pixels w h b.modes b.subs b.coeffs b.y b.u b.v right two k g p i x hi hx)

  -- ---- by raster order
  module _ (p : Plane) (P : ℕ → ℕ → Type 0) (closed : ClosedIn p P) (same : (j : ℕ) → P (j / w) (j % w) → SameMade p a b j) where
    so_far : (m k : ℕ) → k < m → Finished w h d k → Finished w h e k → P (k / w) (k % w) → SamePixels p w k d e
    so_far zero k l f g q = absurd (omega arith)
    so_far (suc m) k l f g q =
        same_here p P closed k f g q
        (λ j t u. so_far m j (omega arith) (finished-before w h right a k j (le_of_lt t) f) (finished-before w h right b k j (le_of_lt t) g) u)
        (same k q)

    pub reached : (k : ℕ) → Finished w h d k → Finished w h e k → P (k / w) (k % w) → SamePixels p w k d e
    reached k f g q = so_far (suc k) k (omega arith) f g q
