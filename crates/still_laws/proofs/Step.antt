-- What a turn of a still does to the planes: nothing once a macroblock was refused; nothing, and its own raster index, where it is refused itself; else its
-- pixels are put in their place. Assumes nothing.
use Prim.Native.Nat.{ℕ, ◌+◌, ◌*◌, ◌/◌, ◌%◌}
use mathlib.Core.Bool.{Bool, true, false}
use mathlib.Core.Path.{◌≡◌, refl, ap, ◌∙◌}
use mathlib.Core.List.{List}
use borrow.Author.Tests.{eqb-true, eqb-false, ne_eqb}
use lib.Dec.{eqb}
use lib.IntN.{ℤ}
use lib.ListN.{length, get_or, take, drop}
use Rattle.lists.specs.Lists.{pick, ◌beside◌}
use Rattle.macroblock.specs.Reply.{done}
use Rattle.gathering.specs.Answers.{gathered}
use Rattle.reconstruct.specs.Answers.{MbAnswer}
use Rattle.canvas.specs.Placed.{placed}
use Rattle.canvas.specs.Into.{made, drawn_into}
use Rattle.still.specs.Picture.{Progress, progress, drawn_at, turn}
use Rattle.still_laws.specs.Words.{Plane, in_y, in_u, in_v, side, plane_of, pixels_of, Outside, made_at}
use Rattle.still_laws.proofs.Block.{placed-length, placed-outside}

-- ---- a macroblock drawn into the planes
data Into (w c r : ℕ) (m : MbAnswer) (y u v : List ℕ) : ℕ × (List ℕ × (List ℕ × List ℕ)) → Type 0 where
  kept : (k : ℕ) → (k ≡ 0 → ⊥) → Into w c r m y u v (k beside y beside u beside v)
  put : m.reply ≡ 0 → Into w c r m y u v (0 beside placed 16 w c r m.y y beside placed 8 w c r m.u u beside placed 8 w c r m.v v)

module _ (w h c r luma chroma skip : ℕ) (subs right : List ℕ) (coeffs : List ℤ) (y u v : List ℕ) where
  abbrev m : MbAnswer
  m = made w h c r luma chroma skip subs right coeffs y u v

  by_tests : (g : ℕ) (a b : Bool) → eqb g done ≡ a → eqb m.reply done ≡ b
      → Into w c r m y u v
      (pick a
      (pick b
      (done beside placed 16 w c r m.y y beside placed 8 w c r m.u u beside placed 8 w c r m.v v)
      (m.reply beside y beside u beside v))
      (g beside y beside u beside v))
  by_tests g true true e f = put (eqb-true _ _ f)
  by_tests g true false e f = kept _ (eqb-false _ _ f)
  by_tests g false b e f = kept _ (eqb-false _ _ e)

  into : Into w c r m y u v (drawn_into w h c r luma chroma skip subs right coeffs y u v)
  unfolding drawn_into
  into = by_tests (gathered y u v w h c r right).reply _ _ refl refl

-- ---- turn k, from d to e, m being what the walkers make
pub data Step (w k : ℕ) (m : MbAnswer) (d e : Progress) : Type 0 where
  stays : (d.reply ≡ 0 → ⊥) → e ≡ d → Step w k m d e
  refuses : d.reply ≡ 0 → (e.reply ≡ 0 → ⊥) → e.index ≡ k → ((p : Plane) → plane_of p e ≡ plane_of p d) → Step w k m d e
  puts : d.reply ≡ 0 → e.reply ≡ 0 → e.index ≡ 0 → m.reply ≡ 0
      → ((p : Plane) → plane_of p e ≡ placed (side p) w (k % w) (k / w) (pixels_of p m) (plane_of p d)) → Step w k m d e

same-planes : (reply index : ℕ) (d : Progress) (p : Plane) → plane_of p (progress reply index d.y d.u d.v) ≡ plane_of p d
same-planes reply index d in_y = refl
same-planes reply index d in_u = refl
same-planes reply index d in_v = refl

put-planes : (index w c r : ℕ) (m : MbAnswer) (d : Progress) (p : Plane)
    → plane_of p (progress 0 index (placed 16 w c r m.y d.y) (placed 8 w c r m.u d.u) (placed 8 w c r m.v d.v))
    ≡ placed (side p) w c r (pixels_of p m) (plane_of p d)
put-planes index w c r m d in_y = refl
put-planes index w c r m d in_u = refl
put-planes index w c r m d in_v = refl

from-into : (w k : ℕ) (m : MbAnswer) (d : Progress) (t : ℕ × (List ℕ × (List ℕ × List ℕ))) → d.reply ≡ 0
    → Into w (k % w) (k / w) m d.y d.u d.v t
    → Step w k m d (progress t.0 (pick (eqb t.0 done) 0 k) t.1.0 t.1.1.0 t.1.1.1)
from-into w k m d t z (kept r n) = refuses z n (rw (ne_eqb r 0 n)) (same-planes r (pick (eqb r 0) 0 k) d)
from-into w k m d t z (put e) = puts z refl refl e (put-planes 0 w (k % w) (k / w) m d)

module _ (w h : ℕ) (modes subs : List ℕ) (coeffs : List ℤ) (right : ℕ → List ℕ → List ℕ) (k : ℕ) (d : Progress) where
  by-reply : (a : Bool) → eqb d.reply done ≡ a → (t : ℕ × (List ℕ × (List ℕ × List ℕ)))
      → Into w (k % w) (k / w) (made_at w h modes subs coeffs right k d) d.y d.u d.v t
      → Step w k (made_at w h modes subs coeffs right k d) d
      (pick a (progress t.0 (pick (eqb t.0 done) 0 k) t.1.0 t.1.1.0 t.1.1.1) d)
  by-reply true e t i = from-into w k (made_at w h modes subs coeffs right k d) d t (eqb-true _ _ e) i
  by-reply false e t i = stays (eqb-false _ _ e) refl

  pub step : Step w k (made_at w h modes subs coeffs right k d) d (turn w h modes subs coeffs right k d)
  unfolding turn drawn_at made_at
  step =
      by-reply (eqb d.reply done) refl (drawn_at w h modes subs coeffs right k d.y d.u d.v)
      (into w h (k % w) (k / w) (get_or modes (3 * k) 0) (get_or modes (3 * k + 1) 0) (get_or modes (3 * k + 2) 0) (take 16 (drop (16 * k) subs))
      (right (k / w) d.y) (take 400 (drop (400 * k) coeffs)) d.y d.u d.v)

-- ---- what every turn keeps: the lengths, and the bytes that are not its macroblock's
module _ {w k : ℕ} {m : MbAnswer} {d e : Progress} where
  pub step-length : Step w k m d e → (p : Plane) → length (plane_of p e) ≡ length (plane_of p d)
  step-length (stays n q) p = ap (λ (x : Progress). length (plane_of p x)) q
  step-length (refuses z n q f) p = ap (λ (l : List ℕ). length l) (f p)
  step-length (puts z q i r f) p =
      ap (λ (l : List ℕ). length l) (f p) ∙ placed-length (side p) w (k % w) (k / w) (pixels_of p m) (plane_of p d)

  -- where it is refused, all of them
  pub step-outside : Step w k m d e → (p : Plane) (q : ℕ) → (e.reply ≡ 0 → Outside p w k q) → get_or (plane_of p e) q 0 ≡ get_or (plane_of p d) q 0
  step-outside (stays n s) p q h = ap (λ (x : Progress). get_or (plane_of p x) q 0) s
  step-outside (refuses z n s f) p q h = ap (λ (l : List ℕ). get_or l q 0) (f p)
  step-outside (puts z s i r f) p q h =
      ap (λ (l : List ℕ). get_or l q 0) (f p) ∙ placed-outside (side p) w (k % w) (k / w) (pixels_of p m) (plane_of p d) q (h s)
