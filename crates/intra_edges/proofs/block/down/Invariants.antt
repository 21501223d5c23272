-- `intra_edges::block::down` meets its contract: after r turns the first r rows are the rule's. Assumes nothing.
use Prim.Native.Nat.{◌≤◌, ◌*◌}
use mathlib.Core.Path.{◌≡◌}
use mathlib.Core.List.{◌++◌}
use lib.ListN.{drop}
use Rattle.lists.specs.Lists.{rows}
use Rattle.rfc6386.specs.Edges.{v_pixel}
use Rattle.intra_edges.proofs.block.down.Given as goal

abbrev pub invariant-loop-r : goal.invariant-loop-r
invariant-loop-r l = (l.r ≤ l.n) × (l.out ≡ rows l.n l.r (v_pixel l.edge) ++ drop (l.r * l.n) l.initial.out)
