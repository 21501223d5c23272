-- `planes::run::add_all` meets its contract: after k turns the first k pixels have their residues added. Assumes nothing.
use Prim.Native.Nat.{◌+◌}
use mathlib.Core.Path.{◌≡◌}
use mathlib.Core.List.{◌++◌}
use lib.IntN.{pos}
use lib.ListN.{get_or, drop}
use Rattle.lists.specs.Lists.{table}
use Rattle.rfc6386.specs.Residue.{sum}
use Rattle.planes.proofs.run.add_all.Given as goal

abbrev pub invariant-loop-k : goal.invariant-loop-k
invariant-loop-k l = l.px ≡ table l.k (λ k. sum (get_or l.initial.px k 0) (get_or l.o (l.start + k) (pos 0))) ++ drop l.k l.initial.px
