-- Division rounded down: q is the floor of z / m. Assumes nothing.
use mathlib.Core.Path.{◌≡◌}
use Prim.Native.Nat.{ℕ, suc, ◌*◌, ◌/◌, ◌<◌}
use native.Mathlib.Nat.{div-add-mod', mod-lt}
use native.Mathlib.Omega.{arith}
use lib.IntN.{ℤ, pos, negsuc, neg_ℤ, ◌+ℤ◌, ◌*ℤ◌}
use lib.Signed.{◌≤ℤ◌, ◌<ℤ◌, shr_z}
use Rattle.whole.proofs.Parts.{P, N, parts, neg-P, neg-N, add_parts}
use Rattle.whole.proofs.Linear.{linear, split2, split3}
use Rattle.whole.proofs.Order.{≤ℤ-antisym, *ℤ-cancel}

abbrev pub Floor : ℕ → ℤ → ℤ → Type 0
Floor m z q = ((pos m *ℤ q) ≤ℤ z) × (z <ℤ (pos m *ℤ q +ℤ pos m))

pub floor : (m : ℕ) (z : ℤ) → 0 < m → Floor m z (shr_z z m)
unfolding P N
floor m (pos a) h = omega (arith, parts, div-add-mod' a m, mod-lt a h)
floor m (negsuc a) h =
    omega (
      arith,
      parts,
      div-add-mod' a m,
      mod-lt a h,
      neg-P (pos (m * suc (a / m))),
      neg-N (pos (m * suc (a / m))),
      add_parts (neg_ℤ (pos (m * suc (a / m)))) (pos m),
    )

-- there is one only
pub floor-one : (m : ℕ) (z q r : ℤ) → Floor m z q → Floor m z r → q ≡ r
floor-one m z q r f g = ≤ℤ-antisym q r (less q r f.0 g.1) (less r q g.0 f.1)
  where
    next : (m : ℕ) (z q r : ℤ) → (pos m *ℤ q) ≤ℤ z → z <ℤ (pos m *ℤ r +ℤ pos m) → (pos m *ℤ q) <ℤ (pos m *ℤ (r +ℤ pos 1))
    next m = split3 _ λ a b c d e f. simp linear (omega arith)

    down : (q r : ℤ) → q <ℤ (r +ℤ pos 1) → q ≤ℤ r
    down = split2 _ λ a b c d. simp linear (omega arith)

    less : (q r : ℤ) → (pos m *ℤ q) ≤ℤ z → z <ℤ (pos m *ℤ r +ℤ pos m) → q ≤ℤ r
    less q r h k = down q r (*ℤ-cancel m q (r +ℤ pos 1) (next m z q r h k))

pub floor-is : (m : ℕ) (z q : ℤ) → 0 < m → Floor m z q → shr_z z m ≡ q
floor-is m z q h f = floor-one m z (shr_z z m) q (floor m z h) f
