-- The test of an item's places: it holds exactly where the item may be put. Assumes nothing.
use Prim.Native.Nat.{ℕ, ◌+◌, ◌*◌, ◌/◌, ◌≤◌}
use mathlib.Core.Path.{◌≡◌, refl}
use mathlib.Core.Bool.{Bool, true}
use mathlib.Core.List.{List}
use native.Mathlib.Omega.{arith}
use borrow.Author.Tests.{ltb-true, leb-true, eqb-true, lt-ltb, le-leb, eq-eqb}
use lib.Dec.{leb, ltb, eqb}
use lib.ListN.{length, get_or}
use Rattle.lists.specs.Lists.{both}
use Rattle.lists.proofs.Tests.{left-holds, right-holds}
use Rattle.shelf_items.specs.Steps.{has_place, Ready}

module _ (i subs coeffs out replies : ℕ) (clipped : List ℕ) where
  abbrev counted : Bool
  counted = leb (get_or clipped 0 0) (384 * i)

  pub placed : has_place i subs coeffs out replies clipped ≡ true → (16 * i + 16 ≤ subs) × (400 * i + 400 ≤ coeffs) × Ready i out replies clipped
  unfolding has_place
  placed e =
      let one = both (eqb (length clipped) 1) counted in
      let two = both (ltb i replies) one in
      let three = both (ltb i (out / 384)) two in
      let four = both (ltb i (coeffs / 400)) three in
      let e₁ = right-holds (ltb i (subs / 16)) four e in
      let e₂ = right-holds (ltb i (coeffs / 400)) three e₁ in
      let e₃ = right-holds (ltb i (out / 384)) two e₂ in
      let e₄ = right-holds (ltb i replies) one e₃ in
      let s = ltb-true i (subs / 16) (left-holds (ltb i (subs / 16)) four e) in
      let c = ltb-true i (coeffs / 400) (left-holds (ltb i (coeffs / 400)) three e₁) in
      let o = ltb-true i (out / 384) (left-holds (ltb i (out / 384)) two e₂) in (
        omega (arith, s),
        omega (arith, c),
        record {
          planes = omega (arith, o);
          reply = ltb-true i replies (left-holds (ltb i replies) one e₃);
          place = eqb-true (length clipped) 1 (left-holds (eqb (length clipped) 1) counted e₄);
          counted = leb-true (get_or clipped 0 0) (384 * i) (right-holds (eqb (length clipped) 1) counted e₄);
        },
      )

  pub has-place : (16 * i + 16 ≤ subs) × (400 * i + 400 ≤ coeffs) × Ready i out replies clipped → has_place i subs coeffs out replies clipped ≡ true
  unfolding has_place
  has-place (s, c, r) =
      rw (
        lt-ltb i (subs / 16) (omega (arith, s)),
        lt-ltb i (coeffs / 400) (omega (arith, c)),
        lt-ltb i (out / 384) (omega (arith, r.planes)),
        lt-ltb i replies r.reply,
        eq-eqb (length clipped) 1 r.place,
        le-leb (get_or clipped 0 0) (384 * i) r.counted,
      ) refl
