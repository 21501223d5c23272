-- When a 4x4 block lies in a plane: the rule in whole numbers without bound, and what the code's divisions say of it. Assumes nothing.
use mathlib.Core.Bool.{true, false}
use mathlib.Core.Path.{◌≡◌}
use Prim.Native.Nat.{ℕ, ◌+◌, ◌-◌, ◌*◌, ◌/◌, ◌<◌, ◌≤◌}
use native.Mathlib.Nat.{le-div_iff_mul-le, mul-le-mul_left, add-mul, mul-one}
use native.Mathlib.Omega.{arith}
use lib.Dec.{leb, leb→le, le→leb}
use Rattle.lists.proofs.Tests.{both_false, both_true, both-says}
use Rattle.rfc6386.specs.Residue.{lies}

module _ (n s r c : ℕ) where
  pub refused : (4 * c + 4 ≤ s → (4 * r + 3) * s + 4 * c + 4 ≤ n → ⊥) → false ≡ lies n s r c
  unfolding lies
  refused h = both_false (leb (4 * c + 4) s) (leb ((4 * r + 3) * s + 4 * c + 4) n) (λ p q. h (leb→le _ _ p) (leb→le _ _ q))

  pub accepted : 4 * c + 4 ≤ s → (4 * r + 3) * s + 4 * c + 4 ≤ n → true ≡ lies n s r c
  unfolding lies
  accepted p q = both_true (leb (4 * c + 4) s) (leb ((4 * r + 3) * s + 4 * c + 4) n) (le→leb _ _ p) (le→leb _ _ q)

  pub lies_says : lies n s r c ≡ true → (4 * c + 4 ≤ s) × ((4 * r + 3) * s + 4 * c + 4 ≤ n)
  unfolding lies
  lies_says e = let b = both-says (leb (4 * c + 4) s) (leb ((4 * r + 3) * s + 4 * c + 4) n) e in (leb→le _ _ b.0, leb→le _ _ b.1)

  -- the rows fit exactly where the quotient says so
  pub rows_fit : 4 * c + 4 ≤ s → 4 * c + 4 ≤ n → 4 * r + 3 ≤ (n - (4 * c + 4)) / s → (4 * r + 3) * s + 4 * c + 4 ≤ n
  rows_fit p q h =
      let z : 0 < s = omega arith in
      let k : (4 * r + 3) * s ≤ n - (4 * c + 4) = (le-div_iff_mul-le z).0 h in
      omega arith

  pub rows_pass : 4 * c + 4 ≤ s → (n - (4 * c + 4)) / s < 4 * r + 3 → (4 * r + 3) * s + 4 * c + 4 ≤ n → ⊥
  rows_pass p h q =
      let z : 0 < s = omega arith in
      let m : (4 * r + 3) * s ≤ n - (4 * c + 4) = omega arith in
      let k : 4 * r + 3 ≤ (n - (4 * c + 4)) / s = (le-div_iff_mul-le z).1 m in
      omega arith

  -- a block that lies in the plane: its first row, its first pixel, and three rows and four pixels after that are within
  abbrev pub Room : Type 0
  Room = (4 * r ≤ n) × (4 * r * s + 4 * c + (3 * s + 4) ≤ n)

  pub lies-room : lies n s r c ≡ true → Room
  lies-room e =
      let h = lies_says e in
      let z : 1 ≤ s = omega arith in
      let k : 4 * r * 1 ≤ 4 * r * s = mul-le-mul_left (4 * r) z in
      let d : (4 * r + 3) * s ≡ 4 * r * s + 3 * s = add-mul (4 * r) 3 s in
      (omega (arith, mul-one (4 * r)), omega arith)
