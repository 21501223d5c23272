-- 14.3: with sixteen numbers of 16 bits no sum of the inverse WHT leaves 2^20, and on a block whose other fifteen coefficients are 0 the transform
-- is its DC-only form. Assumes nothing.
use mathlib.Core.Path.{◌≡◌, ◌∙◌}
use mathlib.Core.List.{List}
use Prim.Native.Nat.{ℕ, zero, suc, ◌+◌, ◌*◌, ◌<◌, ◌≤◌}
use native.Mathlib.Omega.{arith}
use lib.IntN.{ℤ, pos, nat_abs, ◌+ℤ◌, ◌-ℤ◌, +ℤ_idr, +ℤ_idl}
use lib.ListN.{get_or}
use Rattle.whole.proofs.Range.{abs-add, abs-sub}
use Rattle.lists.proofs.Table.{table_same}
use Rattle.lists.proofs.Rows.{rows_ext, rows_same}
use Rattle.rfc6386.specs.Wht.{wht_pass, wht_column, wht_round, wht_at, iwht, iwht_dc}

-- ---- the sums of a pass over four numbers of magnitude at most B
pub record Sums (B : ℕ) (i0 i4 i8 i12 : ℤ) : Type 0 where
  pub a : nat_abs (i0 +ℤ i12) ≤ 2 * B
  pub b : nat_abs (i4 +ℤ i8) ≤ 2 * B
  pub c : nat_abs (i4 -ℤ i8) ≤ 2 * B
  pub d : nat_abs (i0 -ℤ i12) ≤ 2 * B
  pub result : (k : ℕ) → nat_abs (wht_pass k i0 i4 i8 i12) ≤ 4 * B

pub pass-sums : (B : ℕ) (i0 i4 i8 i12 : ℤ) → nat_abs i0 ≤ B → nat_abs i4 ≤ B → nat_abs i8 ≤ B → nat_abs i12 ≤ B → Sums B i0 i4 i8 i12
unfolding wht_pass
pass-sums B i0 i4 i8 i12 p q r s =
    record {
      a = omega (arith, abs-add i0 i12);
      b = omega (arith, abs-add i4 i8);
      c = omega (arith, abs-sub i4 i8);
      d = omega (arith, abs-sub i0 i12);
      result = results;
    }
  where
    results : (k : ℕ) → nat_abs (wht_pass k i0 i4 i8 i12) ≤ 4 * B
    results zero = omega (arith, abs-add (i0 +ℤ i12) (i4 +ℤ i8), abs-add i0 i12, abs-add i4 i8)
    results (suc zero) = omega (arith, abs-add (i4 -ℤ i8) (i0 -ℤ i12), abs-sub i0 i12, abs-sub i4 i8)
    results (suc (suc zero)) = omega (arith, abs-sub (i0 +ℤ i12) (i4 +ℤ i8), abs-add i0 i12, abs-add i4 i8)
    results (suc (suc (suc k))) = omega (arith, abs-sub (i0 -ℤ i12) (i4 -ℤ i8), abs-sub i0 i12, abs-sub i4 i8)

-- ---- no sum leaves 2^20: the column pass, the row pass, and the closing 3
-- the row pass before it is rounded
abbrev pub row_sum : (ℕ → ℤ) → ℕ → ℕ → ℤ
row_sum x r c = wht_pass c (wht_column x r 0) (wht_column x r 1) (wht_column x r 2) (wht_column x r 3)

module _ (B : ℕ) (x : ℕ → ℤ) (small : (k : ℕ) → nat_abs (x k) ≤ B) where
  pub column-sums : (c : ℕ) → Sums B (x c) (x (4 + c)) (x (8 + c)) (x (12 + c))
  column-sums c = pass-sums B (x c) (x (4 + c)) (x (8 + c)) (x (12 + c)) (small c) (small (4 + c)) (small (8 + c)) (small (12 + c))

  pub column-bound : (r c : ℕ) → nat_abs (wht_column x r c) ≤ 4 * B
  unfolding wht_column
  column-bound r c = (column-sums c).result r

  pub row-sums : (r : ℕ) → Sums (4 * B) (wht_column x r 0) (wht_column x r 1) (wht_column x r 2) (wht_column x r 3)
  row-sums r =
      pass-sums (4 * B) (wht_column x r 0) (wht_column x r 1) (wht_column x r 2) (wht_column x r 3)
      (column-bound r 0) (column-bound r 1) (column-bound r 2) (column-bound r 3)

pub no-sum-leaves-2^20 : (x : ℕ → ℤ) → ((k : ℕ) → nat_abs (x k) ≤ 32768) → (r c : ℕ)
    → (nat_abs (wht_column x r c) < 1048576) × (nat_abs (row_sum x r c) < 1048576) × (nat_abs (row_sum x r c +ℤ pos 3) < 1048576)
no-sum-leaves-2^20 x small r c =
    let p = (row-sums 32768 x small r).result c in
    (omega (arith, column-bound 32768 x small r c), omega arith, omega (arith, abs-add (row_sum x r c) (pos 3)))

-- ---- without AC
-- a pass over one number and three zeros gives it four times
pass-dc : (k : ℕ) (z : ℤ) → wht_pass k z (pos 0) (pos 0) (pos 0) ≡ z
unfolding wht_pass
pass-dc zero z = simp (+ℤ_idr, +ℤ_idl)
pass-dc (suc zero) z = simp (+ℤ_idr, +ℤ_idl)
pass-dc (suc (suc zero)) z = simp (+ℤ_idr, +ℤ_idl)
pass-dc (suc (suc (suc k))) z = simp (+ℤ_idr, +ℤ_idl)

module _ (x : ℕ → ℤ) (zeros : (k : ℕ) → 1 ≤ k → k < 16 → x k ≡ pos 0) where
  first-column : (r : ℕ) → wht_column x r 0 ≡ x 0
  unfolding wht_column
  first-column r = rw (zeros 4 (omega arith) (omega arith), zeros 8 (omega arith) (omega arith), zeros 12 (omega arith) (omega arith)) (pass-dc r (x 0))

  other-column : (r c : ℕ) → 1 ≤ c → c < 4 → wht_column x r c ≡ pos 0
  unfolding wht_column
  other-column r c p q =
      rw (zeros c p (omega arith), zeros (4 + c) (omega arith) (omega arith), zeros (8 + c) (omega arith) (omega arith), zeros (12 + c) (omega arith) (omega arith))
      (pass-dc r (pos 0))

  result-dc : (r c : ℕ) → wht_at x r c ≡ wht_round (x 0)
  unfolding wht_at
  result-dc r c =
      rw (first-column r, other-column r 1 (omega arith) (omega arith), other-column r 2 (omega arith) (omega arith), other-column r 3 (omega arith) (omega arith))
      (rw (pass-dc c (x 0)))

pub dc-only-is-full : (l : List ℤ) → ((k : ℕ) → 1 ≤ k → k < 16 → get_or l k (pos 0) ≡ pos 0) → iwht l ≡ iwht_dc (get_or l 0 (pos 0))
unfolding iwht iwht_dc
dc-only-is-full l zeros =
    let v = wht_round (get_or l 0 (pos 0)) in
    rows_ext 4 4 (wht_at (λ k. get_or l k (pos 0))) (λ r c. v) (λ r c p q. result-dc (λ k. get_or l k (pos 0)) zeros r c)
    ∙ rows_same v 4 4 ∙ table_same v 16
