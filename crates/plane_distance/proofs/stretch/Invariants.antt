-- `plane_distance::stretch` meets its contract: after t turns the sum is that of the first 64 t pixels, and each lane is that of its first t. Assumes nothing.
use Prim.Native.Nat.{◌≤◌, ◌+◌, ◌*◌}
use mathlib.Core.Path.{◌≡◌}
use Rattle.lists.specs.Lists.{table, total}
use Rattle.plane_distance.specs.Apart.{square_at}
use Rattle.plane_distance.proofs.Lanes.{gap_lane, same_lane}
use Rattle.plane_distance.proofs.stretch.Given as goal

abbrev pub invariant-loop-t : goal.invariant-loop-t
invariant-loop-t l = (l.t ≤ l.turns) × (l.s ≡ total (64 * l.t) (λ i. square_at l.a l.b (l.at + i))) × (l.m ≡ table 64 (gap_lane l.a l.b l.at l.t)) × (l.n ≡ table 64 (same_lane l.a l.b l.at l.t))
