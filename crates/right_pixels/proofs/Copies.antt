-- What `right_pixels` answers, of every answer that its promise admits: 7 and 1 exactly where the limits say so, with zeros; else 0, and four
-- copies of one pixel, the last of the sixteen that stand above the row's last macroblock.
-- Assumes nothing.
use Prim.Native.Nat.{ℕ, ◌+◌, ◌-◌, ◌*◌, ◌<◌, ◌≤◌}
use mathlib.Core.Path.{◌≡◌, ap, ◌∙◌}
use mathlib.Core.List.{List}
use native.Mathlib.Omega.{arith}
use lib.ListN.{length, get_or, replicate}
use borrow.Author.Tests.{lt-ltb, le-ltb, le-leb, eq-eqb, ne_eqb}
use Rattle.lists.proofs.Table.{table_at}
use Rattle.macroblock.specs.Reply.{done, wrong_length, outside_picture}
use Rattle.rfc6386.specs.Picture.{pixel_of, row_above}
use Rattle.picture_limits.proofs.Accepted.{Within}
use Rattle.right_pixels.specs.Answers.{RightPixels, last_above, refused, right_pixels}
use Rattle.right_pixels.proofs.Accepted.{row-true, row-false, row-placed, ends}

-- the last pixel of the row above is the last of the sixteen above the last macroblock
pub last-of-sixteen : (y : List ℕ) (w r : ℕ) (right : List ℕ) → 1 ≤ w → 1 ≤ r → get_or (row_above 16 21 y w (w - 1) r right) 16 0 ≡ last_above y w r
unfolding row_above pixel_of last_above
last-of-sixteen y w r right a b =
    rw (lt-ltb 0 r b)
    (table_at 21 _ 16 0 (omega arith)
    ∙ rw (le-ltb (16 * (w - 1) + 16) 1 (omega arith), le-leb (16 * (w - 1) + 16) (16 * w) (omega arith))
    (ap (λ (i : ℕ). get_or y i 0) (omega arith)))

module _ (y : List ℕ) (w h r : ℕ) (p : RightPixels) (e : p ≡ right_pixels y w h r) where
  pub row-refused : (1 ≤ r → Within w h 0 r → ⊥) → p ≡ refused outside_picture
  unfolding right_pixels
  row-refused k = e ∙ rw (row-false w h r k)

  module _ (a : 1 ≤ r) (b : Within w h 0 r) where
    pub length-refused : (length y ≡ 256 * (w * h) → ⊥) → p ≡ refused wrong_length
    unfolding right_pixels
    length-refused k = e ∙ rw (row-true w h r a b, ne_eqb _ _ k)

    pub copies : (right : List ℕ) → length y ≡ 256 * (w * h)
        → p ≡ record { reply = done; pixels = replicate 4 (get_or (row_above 16 21 y w (w - 1) r right) 16 0) }
    unfolding right_pixels
    copies right q = e ∙ rw (row-true w h r a b, eq-eqb _ _ q, last-of-sixteen y w r right b.column a)

    -- that pixel lies in the plane
    pub inside : length y ≡ 256 * (w * h) → (16 * r - 1) * (16 * w) + (16 * w - 1) < length y
    inside q =
        let s = row-placed w h r y (row-true w h r a b) (eq-eqb _ _ q) in
        let k = ends y w r s.0 s.1 in
        omega arith
