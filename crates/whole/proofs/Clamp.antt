-- Held within 0 and m: the three cases, two tests that decide them, and that a clamp never moves two numbers apart.
-- Assumes nothing.
use mathlib.Core.Path.{◌≡◌, refl, ap}
use mathlib.Core.Bool.{true, false}
use Prim.Native.Nat.{ℕ, suc, ◌+◌, ◌*◌, ◌≤◌, ◌<◌, min}
use native.Mathlib.Nat.{mul-le-mul_left}
use native.Mathlib.Decide.{dec_le, dec_lt}
use native.Mathlib.Omega.{arith}
use borrow.Author.Tests.{ltb-true, ltb-false, lt-ltb, le-ltb}
use Rattle.std.specs.Int.{int_max, int_min}
use lib.IntN.{ℤ, pos, negsuc, neg_ℤ, nat_abs, ◌+ℤ◌, ◌*ℤ◌}
use lib.Signed.{◌≤ℤ◌, lt_z}
use Rattle.whole.specs.Whole.{clamp_to, clamp}
use Rattle.whole.proofs.Parts.{P, N, parts, add_parts, neg-P}

-- the positive part, at most m
pub clamp-part : (m : ℕ) (z : ℤ) → clamp_to m z ≡ min (P z) m
unfolding clamp_to P
clamp-part m (pos n) = refl
clamp-part m (negsuc n) = omega arith

pub clamp-≤ : (m : ℕ) (z : ℤ) → clamp_to m z ≤ m
clamp-≤ m z = omega (arith, clamp-part m z)

pub clamp-in : (m n : ℕ) → n ≤ m → clamp_to m (pos n) ≡ n
unfolding clamp_to
clamp-in m n h = omega arith

-- ---- by the two tests of the code
never : ◌≡◌ {A = ℕ} 0 1 → ⊥
never q = omega arith

pub clamp-low : (m : ℕ) (z : ℤ) → lt_z z (pos 0) ≡ true → 0 ≡ clamp_to m z
unfolding clamp_to
clamp-low m (pos n) e = omega (arith, ltb-true n 0 e)
clamp-low m (negsuc n) e = refl

pub clamp-high : (m : ℕ) (z : ℤ) → lt_z (pos m) z ≡ true → m ≡ clamp_to m z
unfolding clamp_to
clamp-high m (pos n) e = omega (arith, ltb-true m n e)
clamp-high m (negsuc n) e = let q : ◌≡◌ {A = ℕ} 0 1 = cc in absurd (never q)

pub clamp-self : (m : ℕ) (z : ℤ) → lt_z z (pos 0) ≡ false → lt_z (pos m) z ≡ false → z ≡ pos (clamp_to m z)
unfolding clamp_to
clamp-self m (pos n) e h = ap pos (omega (arith, ltb-false m n h))
clamp-self m (negsuc n) e h = let q : ◌≡◌ {A = ℕ} 0 1 = cc in absurd (never q)

-- a clamp is a byte
pub clamp-byte : (z : ℤ) → nat_abs (pos (clamp z)) < 256
clamp-byte z = omega (arith, clamp-≤ 255 z)

-- ---- two numbers, and a number scaled
parts-near : (d : ℕ) (z w : ℤ) → z ≤ℤ (w +ℤ pos d) → P z ≤ P w + d
unfolding P N
parts-near d (pos a) (pos b) h = omega (arith, parts)
parts-near d (pos a) (negsuc b) h = omega (arith, parts, add_parts (negsuc b) (pos d))
parts-near d (negsuc a) w h = omega arith

-- it never moves two numbers apart
pub clamp-near : (m d : ℕ) (z w : ℤ) → z ≤ℤ (w +ℤ pos d) → clamp_to m z ≤ clamp_to m w + d
clamp-near m d z w h = omega (arith, parts-near d z w h, clamp-part m z, clamp-part m w)

min-scale : (k m a : ℕ) → k * min a m ≡ min (k * a) (k * m)
min-scale k m a = by (dec_le m a)
  where
    by : Dec (m ≤ a) → k * min a m ≡ min (k * a) (k * m)
    by (yes h) = let e : min a m ≡ m = omega arith in rw e (omega (arith, mul-le-mul_left k h))
    by (no h) = let e : min a m ≡ a = omega arith in let l : a ≤ m = omega arith in rw e (omega (arith, mul-le-mul_left k l))

pub clamp-scale : (k m : ℕ) (z : ℤ) → k * clamp_to m z ≡ clamp_to (k * m) (pos k *ℤ z)
unfolding clamp_to P N
clamp-scale k m (pos a) = min-scale k m a
clamp-scale k m (negsuc a) = omega (arith, clamp-part (k * m) (neg_ℤ (pos (k * suc a))), neg-P (pos (k * suc a)))

-- the larger of 0 and the smaller of the number and 255
pub clamp-is : (z : ℤ) → int_max (pos 0) (int_min z (pos 255)) ≡ pos (clamp z)
unfolding clamp_to
clamp-is (negsuc n) = refl
clamp-is (pos n) = by (dec_lt 255 n)
  where
    by : Dec (255 < n) → int_max (pos 0) (int_min (pos n) (pos 255)) ≡ pos (min n 255)
    by (yes h) = rw (lt-ltb 255 n h) (let e : 255 ≡ min n 255 = omega (arith, h) in ap pos e)
    by (no h) = let q : n ≤ 255 = omega (arith, h) in rw (le-ltb 255 n q, le-ltb n 0 (omega arith)) (let e : n ≡ min n 255 = omega (arith, q) in ap pos e)
