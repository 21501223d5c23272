-- The right-hand pixels of a still: given, or four copies of the last pixel of the row above, which is the last macroblock's there.
-- Assumes nothing.
use Prim.Native.Nat.{ℕ, suc, ◌-◌, ◌*◌, ◌<◌}
use mathlib.Core.Path.{◌≡◌, refl, sym, ap, ◌∙◌}
use mathlib.Core.List.{List}
use native.Mathlib.Omega.{arith}
use lib.ListN.{replicate}
use Rattle.picture_limits.proofs.Accepted.{Within}
use Rattle.right_pixels.specs.Answers.{last_above}
use Rattle.still.specs.Picture.{right_given, right_read}
use Rattle.still_laws.proofs.Alone.{read-later}
use Rattle.later_laws.proofs.Edges.{SameBlock, last-pixel}
use Rattle.later_laws.proofs.Turns.{Steady}

pub given-steady : (w h : ℕ) (given : List ℕ) → Steady w h (right_given given)
unfolding right_given
given-steady w h given r l m a b k s = refl

last-same : (w r : ℕ) (l m : List ℕ) → 0 < w → SameBlock 16 w l m r (w - 1) → last_above l w (suc r) ≡ last_above m w (suc r)
unfolding last_above
last-same w r l m h s =
    let e : 16 * w - 1 ≡ 16 * suc (w - 1) - 1 = omega arith in
    rw (e, last-pixel 16 w r (w - 1) (omega arith)) (s 15 15 (omega arith) (omega arith))

pub read-steady : (w h : ℕ) → Within w h 0 0 → Steady w h (right_read w h)
read-steady w h size r l m a b k s =
    let p : Within w h 0 (suc r) = record { width = size.width; height = size.height; column = size.column; row = k } in
    read-later w h l (suc r) (omega arith) p a ∙ ap (λ (x : ℕ). replicate 4 x) (last-same w r l m size.column s)
    ∙ sym (read-later w h m (suc r) (omega arith) p b)
