use Prim.Native.Nat.{◌≤◌}
use mathlib.Core.Path.{◌≡◌}
use lib.ListN.{length}
use Rattle.lists.specs.Lists.{turns}
use Rattle.rfc6386.specs.LoopFilter.{inner_kind, inner_turn}
use Rattle.edge_lines.specs.Sides.{across, along}
use Rattle.edge_lines.proofs.luma.inner_edges.Given as goal

abbrev pub invariant-loop-j : goal.invariant-loop-j
invariant-loop-j l =
    (l.j ≤ 3) × (length l.y ≡ length l.initial.y)
    × (l.y ≡ turns l.j (inner_turn (inner_kind l.rule.simple) l.rule.inner 16 l.at (across l.direction l.stride) (along l.direction l.stride)) l.initial.y)
