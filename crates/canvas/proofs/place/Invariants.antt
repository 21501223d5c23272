-- `canvas::place` meets its contract. Assumes nothing.
use Prim.Native.Nat.{◌≤◌}
use mathlib.Core.Path.{◌≡◌}
use lib.ListN.{length}
use Rattle.lists.specs.Lists.{turns}
use Rattle.canvas.specs.Placed.{placed_row}
use Rattle.canvas.proofs.place.Given as goal

abbrev pub invariant-loop-i : goal.invariant-loop-i
invariant-loop-i l = (l.i ≤ l.n) × ((l.plane ≡ turns l.i (placed_row l.n l.cols l.col l.row l.block) l.initial.plane) × (length l.plane ≡ length l.initial.plane))
