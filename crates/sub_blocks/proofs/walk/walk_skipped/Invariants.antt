-- `sub_blocks::walk::walk_skipped` meets its contract. Assumes nothing.
use Prim.Native.Nat.{◌≤◌}
use mathlib.Core.Path.{◌≡◌}
use Rattle.lists.specs.Lists.{turns}
use Rattle.sub_blocks.specs.Steps.{skipped_at}
use Rattle.sub_blocks.proofs.walk.walk_skipped.Given as goal

abbrev pub invariant-loop-k : goal.invariant-loop-k
invariant-loop-k l = (l.k ≤ 16) × (l.b ≡ turns l.k (skipped_at l.fn.modes) l.initial.b)
