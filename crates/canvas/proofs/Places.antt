-- Where the rows of a block stand in the plane in which it lies. Assumes nothing.
use Prim.Native.Nat.{ℕ, suc, ◌+◌, ◌*◌, ◌<◌, ◌≤◌}
use mathlib.Core.Path.{◌≡◌}
use mathlib.Core.List.{List}
use native.Mathlib.Nat.{mul-le-mul_left, mul-le-mul_right, mul-suc, suc-mul}
use native.Mathlib.Omega.{arith}
use lib.ListN.{length}
use Rattle.picture_limits.specs.Place.{Placed}
use Rattle.picture_limits.proofs.Bounds.{bounds}

-- row i of the block, and what its numbers keep to
pub record RowAt (n : ℕ) (l : List ℕ) (w c r i : ℕ) : Type 0 where
  pub stride : n * w ≤ length l
  pub above : n * r ≤ length l
  pub top : n * r * (n * w) + i * (n * w) ≤ length l
  pub across : n * c ≤ length l
  pub whole : n * r * (n * w) + i * (n * w) + n * c + n ≤ length l

pub row_at : {n : ℕ} {l : List ℕ} {w c r : ℕ} (p : Placed n l w c r) (i : ℕ) → i < n → RowAt n l w c r i
row_at {n} {l} {w} {c} {r} p i h =
    let b = bounds p in
    let column : n * c + n ≤ n * w = b.column in
    let rows : n * r * (n * w) + n * (n * w) ≤ length l = b.rows in
    let row : n * r ≤ n * r * (n * w) = b.row in
    let one : n * w ≤ n * (n * w) = b.one in
    let next : suc i * (n * w) ≤ n * (n * w) = mul-le-mul_right (n * w) h in
    let step : i * (n * w) + n * w ≤ n * (n * w) = rw (← suc-mul) next in
    record { stride = omega arith; above = omega arith; top = omega arith; across = omega arith; whole = omega arith }

-- row i of a block of n rows of n
pub block_row : (n i m : ℕ) → m ≡ n * n → i < n → n * i + n ≤ m
block_row n i m e h = let k : n * suc i ≤ n * n = mul-le-mul_left n h in rw (e, ← mul-suc) k
