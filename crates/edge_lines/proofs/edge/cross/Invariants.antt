use Prim.Native.Nat.{◌≤◌}
use mathlib.Core.Path.{◌≡◌}
use lib.ListN.{length}
use Rattle.macroblock.specs.declared.filter.Kind.{Kind}
use Rattle.lists.specs.Lists.{turns}
use Rattle.rfc6386.specs.LoopFilter.{edge_turn}
use Rattle.edge_lines.specs.Lines.{Filters}
use Rattle.edge_lines.proofs.edge.cross.Given as goal

abbrev pub invariant-loop-k : goal.invariant-loop-k
invariant-loop-k g l =
    (l.k ≤ 16) × (length l.b ≡ length l.initial.b)
    × ((kind : Kind) → Filters kind (goal.F-post g l.filter) → l.b ≡ turns l.k (edge_turn kind l.l l.at 16 1) l.initial.b)
