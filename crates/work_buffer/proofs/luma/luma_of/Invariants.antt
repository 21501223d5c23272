-- `work_buffer::luma::luma_of` meets its contract: after r turns the first r rows are the macroblock's. Assumes nothing.
use Prim.Native.Nat.{◌+◌, ◌*◌, ◌≤◌}
use mathlib.Core.Path.{◌≡◌}
use mathlib.Core.List.{◌++◌}
use lib.ListN.{get_or, drop}
use Rattle.lists.specs.Lists.{rows}
use Rattle.work_buffer.proofs.luma.luma_of.Given as goal

abbrev pub invariant-loop-r : goal.invariant-loop-r
invariant-loop-r l = (l.r ≤ 16) × (l.out ≡ rows 16 l.r (λ r c. get_or l.b (22 + 21 * r + c) 0) ++ drop (l.r * 16) l.initial.out)
