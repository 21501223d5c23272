-- `dequant::scale_blocks` meets its contract. Assumes nothing.
use mathlib.Core.Path.{◌≡◌}
use Prim.Native.Nat.{◌+◌, ◌≤◌}
use lib.ListN.{length}
use Rattle.lists.specs.Lists.{turns}
use Rattle.dequant.specs.Turns.{block_scaled}
use Rattle.dequant.proofs.scale_blocks.Given as goal

abbrev pub invariant-loop-k : goal.invariant-loop-k
invariant-loop-k l = (l.k ≤ l.count) × (length l.coeffs ≡ length l.initial.coeffs) × (l.coeffs ≡ turns l.k (λ j. block_scaled l.dc l.ac (l.first + j)) l.initial.coeffs)
