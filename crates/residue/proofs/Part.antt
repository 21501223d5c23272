-- The sixteen sums of a block, made in the part of the plane that starts at the block, said of the plane. Assumes nothing.
use mathlib.Core.Path.{◌≡◌}
use mathlib.Core.List.{List, ◌++◌}
use Prim.Native.Nat.{ℕ, ◌+◌, ◌-◌, ◌*◌, ◌/◌, ◌%◌, ◌≤◌}
use native.Mathlib.Nat.{zero-add}
use lib.IntN.{ℤ, pos}
use lib.ListN.{length, get_or, set, take, drop}
use lib.Seq.{get_or-append-add}
use Rattle.lists.proofs.Parts.{set_after, turns-back}
use Rattle.rfc6386.specs.Residue.{sum, sum_at, added_at}

module _ (s : ℕ) (res : List ℤ) where
  -- a turn of the row writer
  pub turn-in-part : (i : ℕ) (l : List ℕ)
      → set l (i / 4 * s + i % 4) (sum (get_or l (i / 4 * s + i % 4) 0) (get_or res i (pos 0))) ≡ sum_at 0 s res i l
  turn-in-part i l = rw zero-add

  turn-after : (at : ℕ) (p : List ℕ) (k : ℕ) (m : List ℕ) → length p ≡ at → sum_at at s res k (p ++ m) ≡ p ++ sum_at 0 s res k m
  turn-after at p k m e = rw (← e, get_or-append-add, set_after, zero-add)

  -- the plane once the part is back
  pub added-back : (at : ℕ) (xs ys : List ℕ) → at ≤ length xs → ys ≡ added_at 0 s res (take (length xs - at) (drop at xs))
      → take at xs ++ (ys ++ drop (length xs - at) (drop at xs)) ≡ added_at at s res xs
  unfolding added_at
  added-back at xs ys h e = turns-back 16 at (sum_at at s res) (sum_at 0 s res) xs ys h (turn-after at) e
