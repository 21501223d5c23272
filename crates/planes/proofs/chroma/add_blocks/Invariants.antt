-- `planes::chroma::add_blocks` meets its contract. Assumes nothing.
use Prim.Native.Nat.{◌≤◌}
use mathlib.Core.Path.{◌≡◌}
use Rattle.lists.specs.Lists.{turns}
use Rattle.planes.specs.Steps.{row_added}
use Rattle.planes.proofs.chroma.add_blocks.Given as goal

abbrev pub invariant-loop-r : goal.invariant-loop-r
invariant-loop-r l = (l.r ≤ 8) × (l.px ≡ turns l.r (row_added l.o) l.initial.px)
