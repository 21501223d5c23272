-- `work_buffer::border::lay` meets its contract. Turn i stores pixel i at + i * step. Assumes nothing.
use Prim.Native.Nat.{◌+◌, ◌*◌, ◌≤◌}
use mathlib.Core.Path.{◌≡◌}
use lib.ListN.{get_or}
use Rattle.lists.specs.Lists.{turns, store}
use Rattle.work_buffer.proofs.border.lay.Given as goal

abbrev pub invariant-loop-i : goal.invariant-loop-i
invariant-loop-i l = (l.i ≤ l.n) × (l.b ≡ turns l.i (store (λ k. l.at + k * l.step) (λ k. get_or l.s k 0)) l.initial.b)
