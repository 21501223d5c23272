-- Where gathering answers 0, the macroblock lies in each of the three planes. Assumes nothing.
use Prim.Native.Nat.{ℕ}
use mathlib.Core.Bool.{Bool, true, false}
use mathlib.Core.Path.{◌≡◌, refl}
use mathlib.Core.List.{List}
use native.Mathlib.Omega.{arith}
use lib.ListN.{length}
use Rattle.lists.specs.Lists.{pick}
use Rattle.macroblock.specs.Reply.{wrong_length, outside_picture}
use Rattle.rfc6386.specs.Picture.{place_ok, sizes_ok, neighbors_of}
use Rattle.picture_limits.specs.Place.{Placed}
use Rattle.picture_limits.proofs.Accepted.{Within, Lengths, place-says, sizes-say}
use Rattle.picture_limits.proofs.Bounds.{placed}
use Rattle.gathering.specs.Answers.{Gathered, gathered, refused}

both_hold : (a b : Bool) (g : Gathered) → (pick a (pick b g (refused wrong_length)) (refused outside_picture)).reply ≡ 0 → (a ≡ true) × (b ≡ true)
both_hold true true g e = (refl, refl)
both_hold true false g e = absurd (omega (arith, e))
both_hold false b g e = absurd (omega (arith, e))

module _ (y u v : List ℕ) (w h c r : ℕ) (right : List ℕ) (e : (gathered y u v w h c r right).reply ≡ 0) where
  tests : (place_ok w h c r ≡ true) × (sizes_ok (length y) (length u) (length v) w h ≡ true)
  unfolding gathered
  tests =
      both_hold (place_ok w h c r) (sizes_ok (length y) (length u) (length v) w h) (record { reply = 0; neighbors = neighbors_of y u v w c r right }) e

  pub within : Within w h c r
  within = place-says w h c r tests.0

  pub lengths : Lengths (length y) (length u) (length v) w h
  lengths = sizes-say (length y) (length u) (length v) w h tests.1

  pub y-placed : Placed 16 y w c r
  y-placed = placed 16 y w h c r (omega arith) within.column within.row lengths.y-plane

  pub u-placed : Placed 8 u w c r
  u-placed = placed 8 u w h c r (omega arith) within.column within.row lengths.u-plane

  pub v-placed : Placed 8 v w c r
  v-placed = placed 8 v w h c r (omega arith) within.column within.row lengths.v-plane
