-- `blocks::take_padded` meets its contract: the list is drawn from the front. Assumes nothing.
use Prim.Native.Nat.{◌+◌}
use mathlib.Core.Path.{◌≡◌}
use mathlib.Core.List.{◌++◌}
use lib.ListN.{get_or, drop}
use Rattle.lists.specs.Lists.{table}
use lib.IntN.{pos}
use Rattle.blocks.proofs.take_padded.Given as goal

abbrev pub invariant-loop-k : goal.invariant-loop-k
invariant-loop-k l = l.out ≡ table l.k (λ i. get_or l.coeffs (l.at + i) (pos 0)) ++ drop l.k l.initial.out
