-- What the test of the row says, where the row above ends, and that every answer has four pixels. Assumes nothing.
use Prim.Native.Nat.{ℕ, ◌+◌, ◌-◌, ◌*◌, ◌<◌, ◌≤◌}
use mathlib.Core.Bool.{Bool, true, false}
use mathlib.Core.Path.{◌≡◌, refl}
use mathlib.Core.List.{List}
use native.Mathlib.Omega.{arith}
use lib.Dec.{ltb, ltb→lt}
use lib.ListN.{length}
use borrow.Author.Tests.{lt-ltb, le-ltb, eqb-true}
use Rattle.lists.specs.Lists.{pick}
use Rattle.lists.proofs.Tests.{both-says, T_true, same_test}
use Rattle.rfc6386.specs.Picture.{place_ok, luma_ok}
use Rattle.picture_limits.specs.Place.{Placed}
use Rattle.picture_limits.proofs.Accepted.{Within, place-says, place-true}
use Rattle.picture_limits.proofs.Bounds.{above, placed}
use Rattle.right_pixels.specs.Answers.{RightPixels, row_ok, right_pixels}

module _ (w h r : ℕ) where
  pub row-says : row_ok w h r ≡ true → (1 ≤ r) × Within w h 0 r
  unfolding row_ok
  row-says e =
      let a = both-says (ltb 0 r) (place_ok w h 0 r) e in
      (ltb→lt 0 r a.0, place-says w h 0 r (T_true _ a.1))

  pub row_first : r ≡ 0 → row_ok w h r ≡ false
  unfolding row_ok
  row_first z = rw (le-ltb 0 r (omega arith))

  pub row-later : (r ≡ 0 → ⊥) → place_ok w h 0 r ≡ row_ok w h r
  unfolding row_ok
  row-later k = let z : 0 < r = omega arith in rw (lt-ltb 0 r z)

  pub row-true : 1 ≤ r → Within w h 0 r → row_ok w h r ≡ true
  unfolding row_ok
  row-true a b = rw (lt-ltb 0 r a, place-true w h 0 r b)

  pub row-false : (1 ≤ r → Within w h 0 r → ⊥) → row_ok w h r ≡ false
  row-false k = same_test (row_ok w h r) false (λ t. let a = row-says (T_true _ t) in k a.0 a.1) (λ t. absurd t)

  -- the last macroblock's row lies in an accepted plane
  pub row-placed : (y : List ℕ) → row_ok w h r ≡ true → luma_ok (length y) w h ≡ true → Placed 16 y w 0 r × (1 ≤ r)
  row-placed y e f =
      let a = row-says e in
      (placed 16 y w h 0 r (omega arith) a.1.column a.1.row (eqb-true _ _ f), a.0)

-- the last pixel of the row above lies in the plane
pub record Ends (y : List ℕ) (w r : ℕ) : Type 0 where
  pub some : 1 ≤ w
  pub up : 16 * r ≤ length y
  pub row : (16 * r - 1) * (16 * w) + 16 * w ≤ length y
  pub stride : 16 * w ≤ length y

pub ends : (y : List ℕ) (w r : ℕ) → Placed 16 y w 0 r → 1 ≤ r → Ends y w r
ends y w r p k =
    let a = above p k in
    record { some = p.across; up = omega arith; row = omega arith; stride = omega arith }

-- every answer has four pixels
chosen : (a b : Bool) (x y z : RightPixels)
    → length x.pixels ≡ 4 → length y.pixels ≡ 4 → length z.pixels ≡ 4 → length (pick a (pick b x y) z).pixels ≡ 4
chosen true true x y z p q s = p
chosen true false x y z p q s = q
chosen false b x y z p q s = s

pub four-pixels : (y : List ℕ) (w h r : ℕ) → length (right_pixels y w h r).pixels ≡ 4
unfolding right_pixels
four-pixels y w h r = chosen (row_ok w h r) (luma_ok (length y) w h) _ _ _ refl refl refl
