-- `residue::add_all` meets its contract. Assumes nothing.
use mathlib.Core.Path.{◌≡◌}
use mathlib.Core.List.{◌++◌}
use lib.ListN.{drop}
use Rattle.lists.specs.Lists.{table}
use Rattle.residue.proofs.Sums.{sum_of}
use Rattle.residue.proofs.add_all.Given as goal

abbrev pub invariant-loop-i : goal.invariant-loop-i
invariant-loop-i l = l.out ≡ table l.i (sum_of l.prediction l.residue) ++ drop l.i l.initial.out
