-- `planes::luma::seeded_four` meets its contract. Assumes nothing.
use Prim.Native.Nat.{◌+◌, ◌*◌, ◌≤◌}
use mathlib.Core.Path.{◌≡◌}
use lib.ListN.{get_or}
use Rattle.lists.specs.Lists.{turns, store}
use lib.IntN.{pos}
use Rattle.planes.proofs.luma.seeded_four.Given as goal

abbrev pub invariant-loop-j : goal.invariant-loop-j
invariant-loop-j l = (l.j ≤ 4) × (l.s ≡ turns l.j (store (λ n. 16 * n) (λ n. get_or l.dcs (4 * l.i + n) (pos 0))) l.initial.s)
