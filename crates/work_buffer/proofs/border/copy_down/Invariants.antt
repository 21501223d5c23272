-- `work_buffer::border::copy_down` meets its contract. Assumes nothing.
use Prim.Native.Nat.{◌≤◌}
use mathlib.Core.Path.{◌≡◌}
use Rattle.lists.specs.Lists.{turns}
use Rattle.work_buffer.proofs.Down.{down}
use Rattle.work_buffer.proofs.border.copy_down.Given as goal

abbrev pub invariant-loop-i : goal.invariant-loop-i
invariant-loop-i l = (l.i ≤ 3) × (l.b ≡ turns l.i (down l.right) l.initial.b)
