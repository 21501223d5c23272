-- `sub_blocks::walk::coded_row` meets its contract. Assumes nothing.
use Prim.Native.Nat.{◌≤◌, ◌*◌}
use mathlib.Core.Path.{◌≡◌}
use Rattle.lists.specs.Lists.{turns, total}
use Rattle.sub_blocks.specs.Steps.{coded_at, clipped_in}
use Rattle.sub_blocks.proofs.walk.coded_row.Given as goal

abbrev pub invariant-loop-j : goal.invariant-loop-j
invariant-loop-j l = (l.j ≤ 4)
    × (l.b ≡ turns l.j (coded_at l.modes l.o l.i) l.initial.b)
    × (l.n ≡ total l.j (λ k. clipped_in l.modes l.o l.i k (turns k (coded_at l.modes l.o l.i) l.initial.b)))
    × (l.n ≤ 16 * l.j)
