-- `residue::plane::add_rows` meets its contract. Assumes nothing.
use mathlib.Core.Path.{◌≡◌}
use Prim.Native.Nat.{◌≤◌}
use lib.ListN.{length}
use Rattle.lists.specs.Lists.{turns}
use Rattle.rfc6386.specs.Residue.{sum_at}
use Rattle.residue.proofs.plane.add_rows.Given as goal

abbrev pub invariant-loop-i : goal.invariant-loop-i
invariant-loop-i l = (l.i ≤ 16) × (length l.part ≡ length l.initial.part) × (l.part ≡ turns l.i (sum_at 0 l.stride l.residue) l.initial.part)
