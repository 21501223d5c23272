-- `sub_blocks::put::put_row` meets its contract. Assumes nothing.
use Prim.Native.Nat.{◌+◌, ◌*◌, ◌≤◌}
use mathlib.Core.Path.{◌≡◌}
use lib.ListN.{get_or}
use Rattle.lists.specs.Lists.{turns, store}
use Rattle.sub_blocks.proofs.put.put_row.Given as goal

abbrev pub invariant-loop-c : goal.invariant-loop-c
invariant-loop-c l = (l.c ≤ 4) × (l.b ≡ turns l.c (store (λ k. l.corner.at + 21 * l.r + k) (λ k. get_or l.px (4 * l.r + k) 0)) l.initial.b)
