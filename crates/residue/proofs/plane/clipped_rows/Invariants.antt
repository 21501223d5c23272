-- `residue::plane::clipped_rows` meets its contract: after i turns the count is that of the first i sums. Assumes nothing.
use mathlib.Core.Path.{◌≡◌}
use Prim.Native.Nat.{◌≤◌}
use Rattle.lists.specs.Lists.{total}
use Rattle.residue.proofs.Counted.{over_at}
use Rattle.residue.proofs.plane.clipped_rows.Given as goal

abbrev pub invariant-loop-i : goal.invariant-loop-i
invariant-loop-i l = (l.i ≤ 16) × (l.n ≡ total l.i (over_at l.stride l.residue 0 l.part)) × (l.n ≤ l.i)
