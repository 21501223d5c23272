-- `dct::beside` meets its contract: each turn of the loop puts a row of a block in its place. Assumes nothing.
use Prim.Native.Nat.{◌≤◌}
use mathlib.Core.Path.{◌≡◌}
use lib.ListN.{length}
use Rattle.lists.specs.Lists.{turns}
use Rattle.dct.specs.Turns.{beside_turn}
use Rattle.dct.proofs.beside.Given as goal

abbrev pub invariant-loop-k : goal.invariant-loop-k
invariant-loop-k l = (l.k ≤ 16) × (length l.s ≡ 64) × (l.s ≡ turns l.k (beside_turn l.blocks) l.initial.s)
