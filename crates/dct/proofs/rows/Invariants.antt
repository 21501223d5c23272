-- `dct::rows` meets its contract: each turn of the loop is a row of a block. Assumes nothing.
use Prim.Native.Nat.{◌≤◌}
use mathlib.Core.Path.{◌≡◌}
use lib.ListN.{length}
use Rattle.lists.specs.Lists.{turns}
use Rattle.dct.specs.Turns.{row_turn}
use Rattle.dct.proofs.rows.Given as goal

abbrev pub invariant-loop-q : goal.invariant-loop-q
invariant-loop-q l = (l.q ≤ l.n) × (length l.o ≡ length l.initial.o) × (l.o ≡ turns l.q (row_turn l.t) l.initial.o)
