-- `sub_blocks::walk::walk_coded` meets its contract. Assumes nothing.
use Prim.Native.Nat.{◌*◌, ◌≤◌}
use mathlib.Core.Path.{◌≡◌}
use Rattle.lists.specs.Lists.{turns, total}
use Rattle.blocks.specs.Taken.{residues_from}
use Rattle.sub_blocks.specs.Steps.{coded_at, row_clipped}
use Rattle.sub_blocks.proofs.walk.walk_coded.Given as goal

abbrev pub invariant-loop-i : goal.invariant-loop-i
invariant-loop-i l = (l.i ≤ 4)
    × (l.b ≡ turns l.i (λ k. turns 4 (coded_at l.modes (residues_from l.coeffs (64 * k)) k)) l.initial.b)
    × (l.n
    ≡ total l.i (λ k. row_clipped l.modes (residues_from l.coeffs (64 * k)) k (turns k (λ m. turns 4 (coded_at l.modes (residues_from l.coeffs (64 * m)) m)) l.initial.b)))
    × (l.n ≤ 64 * l.i)
