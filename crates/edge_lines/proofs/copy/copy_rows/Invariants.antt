use Prim.Native.Nat.{◌≤◌, ◌+◌}
use mathlib.Core.Path.{◌≡◌}
use lib.ListN.{length, get_or}
use Rattle.lists.specs.Lists.{turns, store}
use Rattle.edge_lines.specs.Lines.{row_turn, put_turn}
use Rattle.edge_lines.proofs.copy.copy_rows.Given as goal

abbrev pub invariant-loop-j : goal.invariant-loop-j
invariant-loop-j g l = (l.j ≤ g.row.W) × (length l.row ≡ g.row.W) × (l.row ≡ turns l.j (store (λ i. i) (λ i. get_or l.o (l.source + i) 0)) l.initial.row)

abbrev pub invariant-loop-i : goal.invariant-loop-i
invariant-loop-i g l = (l.i ≤ g.row.W) × (length l.p ≡ length l.initial.p) × (l.p ≡ turns l.i (put_turn l.to l.row) l.initial.p)

abbrev pub invariant-loop-k : goal.invariant-loop-k
invariant-loop-k g l = (l.k ≤ l.h) × (length l.p ≡ length l.initial.p) × (l.p ≡ turns l.k (row_turn g.row.W l.at l.stride l.from l.step l.o) l.initial.p)
