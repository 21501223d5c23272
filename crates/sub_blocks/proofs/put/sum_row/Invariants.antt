-- `sub_blocks::put::sum_row` meets its contract. Assumes nothing.
use Prim.Native.Nat.{◌+◌, ◌*◌, ◌≤◌}
use mathlib.Core.Path.{◌≡◌}
use lib.IntN.{pos}
use lib.ListN.{get_or}
use Rattle.lists.specs.Lists.{turns, store}
use Rattle.rfc6386.specs.Residue.{sum}
use Rattle.sub_blocks.proofs.put.sum_row.Given as goal

abbrev pub invariant-loop-c : goal.invariant-loop-c
invariant-loop-c l = (l.c ≤ 4)
    × (l.b ≡ turns l.c (store (λ k. l.corner.at + 21 * l.r + k) (λ k. sum (get_or l.px (4 * l.r + k) 0) (get_or l.o (16 * l.r + 4 * l.j + k) (pos 0)))) l.initial.b)
