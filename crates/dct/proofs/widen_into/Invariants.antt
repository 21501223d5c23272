-- `dct::widen_into` meets its contract: each turn of the loop stores one number. Assumes nothing.
use Prim.Native.Nat.{◌+◌}
use mathlib.Core.Path.{◌≡◌}
use mathlib.Core.List.{◌++◌}
use lib.ListN.{drop}
use Rattle.lists.specs.Lists.{table}
use Rattle.rfc6386.specs.Dct.{entry}
use Rattle.dct.proofs.widen_into.Given as goal

abbrev pub invariant-loop-i : goal.invariant-loop-i
invariant-loop-i l = l.x-items ≡ table l.i (λ k. entry l.l (l.from + k)) ++ drop l.i l.initial.x-items
