-- `sub_blocks::put::sum_block` meets its contract: four rows of four stores are the sixteen. Assumes nothing.
use Prim.Native.Nat.{◌≤◌}
use mathlib.Core.Path.{◌≡◌}
use Rattle.lists.specs.Lists.{turns}
use Rattle.sub_blocks.specs.Steps.{sum_row}
use Rattle.sub_blocks.proofs.put.sum_block.Given as goal

abbrev pub invariant-loop-r : goal.invariant-loop-r
invariant-loop-r l = (l.r ≤ 4) × (l.b ≡ turns l.r (sum_row l.corner.at l.px l.o l.j) l.initial.b)
