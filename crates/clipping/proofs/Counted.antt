-- When a sum is counted.
--     below, by-tests          by the two tests of the code
--     outside-≤                at most once
--     counted-exactly          a sum is not counted exactly where the pixel, which is the sum held within 0 and 255, is the sum itself
--     at-the-stops            0 and 255 are not counted, -1 and 256 are
-- Assumes nothing.
use mathlib.Core.Bool.{Bool, true, false}
use mathlib.Core.Path.{◌≡◌, refl, sym, ap, ◌∙◌}
use Prim.Native.Nat.{ℕ, ◌≤◌, min}
use native.Mathlib.Omega.{arith}
use borrow.Author.Tests.{ltb-true, ltb-false, le-ltb}
use lib.Dec.{ltb, lit≤}
use lib.IntN.{ℤ, pos, negsuc, ◌+ℤ◌}
use lib.Signed.{lt_z}
use mir.Val.{bool_byte}
use Rattle.lists.specs.Lists.{pick}
use Rattle.whole.specs.Whole.{clamp_to, clamp}
use Rattle.whole.proofs.Clamp.{clamp-≤}
use Rattle.rfc6386.specs.Residue.{sum}
use Rattle.clipping.specs.Clipped.{outside, over}

never : ◌≡◌ {A = ℕ} 0 1 → ⊥
never q = omega arith

-- ---- by the tests
pub below : (z : ℤ) → lt_z z (pos 0) ≡ true → 1 ≡ outside z
unfolding outside
below (pos n) e = absurd (never (omega (arith, ltb-true n 0 e)))
below (negsuc n) e = refl

above : (z : ℤ) → lt_z (pos 255) z ≡ true → 1 ≡ outside z
unfolding outside
above (pos n) e = rw e
above (negsuc n) e = refl

inside : (z : ℤ) → lt_z z (pos 0) ≡ false → lt_z (pos 255) z ≡ false → 0 ≡ outside z
unfolding outside
inside (pos n) e h = rw h
inside (negsuc n) e h = let q : ◌≡◌ {A = ℕ} 0 1 = cc in absurd (never q)

-- the second test decides, where the first fails
pub by-tests : (z : ℤ) → lt_z z (pos 0) ≡ false → bool_byte (lt_z (pos 255) z) ≡ outside z
by-tests z e = by (lt_z (pos 255) z) refl
  where
    by : (b : Bool) → lt_z (pos 255) z ≡ b → bool_byte b ≡ outside z
    by true h = above z h
    by false h = inside z e h

-- ---- at most once
pub outside-≤ : (z : ℤ) → outside z ≤ 1
unfolding outside
outside-≤ (pos n) = by (ltb 255 n)
  where
    by : (b : Bool) → pick b 1 0 ≤ 1
    by true = lit≤ tt
    by false = lit≤ tt
outside-≤ (negsuc n) = lit≤ tt

pub over-≤ : (p : ℕ) (r : ℤ) → over p r ≤ 1
unfolding over
over-≤ p r = outside-≤ _

-- ---- exactly where the clamp changes the sum
uncounted : (z : ℤ) → outside z ≡ 0 → pos (clamp z) ≡ z
unfolding outside clamp_to
uncounted (pos n) e = by (ltb 255 n) refl e
  where
    by : (b : Bool) → ltb 255 n ≡ b → ◌≡◌ {A = ℕ} (pick b 1 0) 0 → pos (min n 255) ≡ pos n
    by true t q = absurd (never (sym q))
    by false t q = ap pos (omega (arith, ltb-false 255 n t))
uncounted (negsuc n) e = absurd (never (sym e))

unclamped : (z : ℤ) → pos (clamp z) ≡ z → outside z ≡ 0
unfolding outside
unclamped z e = sym (ap outside e) ∙ held (clamp z) (clamp-≤ 255 z)
  where
    held : (n : ℕ) → n ≤ 255 → outside (pos n) ≡ 0
    held n h = rw (le-ltb 255 n h)

pub counted-exactly : (p : ℕ) (r : ℤ) → (over p r ≡ 0 → pos (sum p r) ≡ pos p +ℤ r) × (pos (sum p r) ≡ pos p +ℤ r → over p r ≡ 0)
unfolding over sum
counted-exactly p r = (uncounted (pos p +ℤ r), unclamped (pos p +ℤ r))

-- ---- at the stops
pub at-the-stops : (over 0 (pos 0) ≡ 0) × (over 255 (pos 0) ≡ 0) × (over 255 (pos 1) ≡ 1) × (over 0 (negsuc 0) ≡ 1)
unfolding over outside
at-the-stops = (refl, refl, refl, refl)
