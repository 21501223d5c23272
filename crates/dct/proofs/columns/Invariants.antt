-- `dct::columns` meets its contract: each turn of the loop is a column. Assumes nothing.
use Prim.Native.Nat.{◌≤◌}
use mathlib.Core.Path.{◌≡◌}
use lib.ListN.{length}
use Rattle.lists.specs.Lists.{turns}
use Rattle.dct.specs.Turns.{column_turn}
use Rattle.dct.proofs.columns.Given as goal

abbrev pub invariant-loop-j : goal.invariant-loop-j
invariant-loop-j l = (l.j ≤ l.w) × (length l.t ≡ length l.initial.t) × (l.t ≡ turns l.j (column_turn l.w l.s) l.initial.t)
