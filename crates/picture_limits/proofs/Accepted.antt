-- What the tests of the size and the place (`Within`) and of the planes' lengths (`Lengths`) say.
-- Assumes nothing.
use Prim.Native.Nat.{ℕ, ◌*◌, ◌<◌, ◌≤◌}
use mathlib.Core.Bool.{true, false}
use mathlib.Core.Path.{◌≡◌}
use lib.Dec.{leb, ltb, eqb, leb→le, ltb→lt, eqb→eq}
use borrow.Author.Tests.{lt-ltb, le-leb, eq-eqb}
use Rattle.lists.specs.Lists.{both}
use Rattle.lists.proofs.Tests.{both-says, T_true, same_test}
use Rattle.rfc6386.specs.Picture.{place_ok, sizes_ok}

pub record Within (w h c r : ℕ) : Type 0 where
  pub width : w ≤ 1024
  pub height : h ≤ 1024
  pub column : c < w
  pub row : r < h

pub record Lengths (y u v w h : ℕ) : Type 0 where
  pub y-plane : y ≡ 256 * (w * h)
  pub u-plane : u ≡ 64 * (w * h)
  pub v-plane : v ≡ 64 * (w * h)

module _ (w h c r : ℕ) where
  pub place-says : place_ok w h c r ≡ true → Within w h c r
  unfolding place_ok
  place-says e =
      let a = both-says (leb w 1024) (both (leb h 1024) (both (ltb c w) (ltb r h))) e in
      let b = both-says (leb h 1024) (both (ltb c w) (ltb r h)) (T_true _ a.1) in
      let d = both-says (ltb c w) (ltb r h) (T_true _ b.1) in
      record { width = leb→le _ _ a.0; height = leb→le _ _ b.0; column = ltb→lt _ _ d.0; row = ltb→lt _ _ d.1 }

  pub place-false : (Within w h c r → ⊥) → place_ok w h c r ≡ false
  place-false k = same_test (place_ok w h c r) false (λ t. k (place-says (T_true _ t))) (λ t. absurd t)

  pub place-true : Within w h c r → place_ok w h c r ≡ true
  unfolding place_ok
  place-true p = rw (le-leb w 1024 p.width, le-leb h 1024 p.height, lt-ltb c w p.column, lt-ltb r h p.row)

module _ (y u v w h : ℕ) where
  pub sizes-say : sizes_ok y u v w h ≡ true → Lengths y u v w h
  unfolding sizes_ok
  sizes-say e =
      let a = both-says (eqb y (256 * (w * h))) (both (eqb u (64 * (w * h))) (eqb v (64 * (w * h)))) e in
      let b = both-says (eqb u (64 * (w * h))) (eqb v (64 * (w * h))) (T_true _ a.1) in
      record { y-plane = eqb→eq _ _ a.0; u-plane = eqb→eq _ _ b.0; v-plane = eqb→eq _ _ b.1 }

  pub sizes-false : (Lengths y u v w h → ⊥) → sizes_ok y u v w h ≡ false
  sizes-false k = same_test (sizes_ok y u v w h) false (λ t. k (sizes-say (T_true _ t))) (λ t. absurd t)

  pub sizes-true : Lengths y u v w h → sizes_ok y u v w h ≡ true
  unfolding sizes_ok
  sizes-true p = rw (eq-eqb y (256 * (w * h)) p.y-plane, eq-eqb u (64 * (w * h)) p.u-plane, eq-eqb v (64 * (w * h)) p.v-plane)
