-- `planes::luma::coded` meets its contract. Assumes nothing.
use Prim.Native.Nat.{◌≤◌, ◌*◌}
use mathlib.Core.Path.{◌≡◌}
use Rattle.lists.specs.Lists.{turns, total}
use Rattle.rfc6386.specs.Dct.{idct_four}
use Rattle.planes.specs.Steps.{seeded_four, group_added, group_clipped}
use Rattle.planes.proofs.luma.coded.Given as goal

abbrev pub invariant-loop-i : goal.invariant-loop-i
invariant-loop-i l = (l.i ≤ 4)
    × (l.px ≡ turns l.i (λ k. group_added (idct_four (seeded_four l.coeffs l.dcs k)) k) l.prediction)
    × (l.n ≡ total l.i (λ k. group_clipped l.prediction (idct_four (seeded_four l.coeffs l.dcs k)) k))
    × (l.n ≤ 64 * l.i)
