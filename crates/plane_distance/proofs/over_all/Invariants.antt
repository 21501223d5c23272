-- `plane_distance::over_all` meets its contract: the stretches so far are the plane so far. Assumes nothing.
use Prim.Native.Nat.{◌*◌, min}
use mathlib.Core.Path.{◌≡◌}
use lib.ListN.{length}
use Rattle.plane_distance.specs.Apart.{distance_from}
use Rattle.plane_distance.proofs.over_all.Given as goal

abbrev pub invariant-loop-part : goal.invariant-loop-part
invariant-loop-part l = l.sum ≡ distance_from l.a l.b 0 (min (16320 * l.part) (length l.a))
