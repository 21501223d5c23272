-- Elsewhere than in the last column below the first row the four given pixels change nothing in the answer, refused or not.
-- Assumes nothing.
use Prim.Native.Nat.{ℕ, zero, suc, ◌+◌, ◌<◌}
use mathlib.Core.Bool.{Bool, true, false}
use mathlib.Core.Path.{◌≡◌, refl}
use mathlib.Core.Logic.{◌⊎◌, inl, inr}
use mathlib.Core.List.{List}
use native.Mathlib.Omega.{arith}
use Rattle.rfc6386.specs.Picture.{luma_beside, neighbors_of, place_ok}
use Rattle.picture_limits.proofs.Accepted.{place-says}
use Rattle.gathering.specs.Answers.{gathered}
use Rattle.gathering.proofs.Pixels.{right-unread}

module _ (y u v : List ℕ) (w c r : ℕ) (s t : List ℕ) where
  pub neighbors-unread : (r ≡ 0) ⊎ (c + 1 < w) → neighbors_of y u v w c r s ≡ neighbors_of y u v w c r t
  unfolding neighbors_of luma_beside
  neighbors-unread k = rw (right-unread y w c r s t k)

-- inside the picture: the first row, or a column before the last
elsewhere : (w c r : ℕ) → c < w → (0 < r → c + 1 ≡ w → ⊥) → (r ≡ 0) ⊎ (c + 1 < w)
elsewhere w c zero p k = inl refl
elsewhere w c (suc r) p k = inr (let f : c + 1 ≡ w → ⊥ = k (omega arith) in omega arith)

module _ (y u v : List ℕ) (w h c r : ℕ) (s t : List ℕ) (k : 0 < r → c + 1 ≡ w → ⊥) where
  by_place : (b : Bool) → place_ok w h c r ≡ b → gathered y u v w h c r s ≡ gathered y u v w h c r t
  unfolding gathered
  by_place true e = rw (neighbors-unread y u v w c r s t (elsewhere w c r (place-says w h c r e).column k))
  by_place false e = rw e

  pub given-unread : gathered y u v w h c r s ≡ gathered y u v w h c r t
  given-unread = by_place (place_ok w h c r) refl
