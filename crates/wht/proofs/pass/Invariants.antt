-- `wht::pass` meets its contract: before turn c the first c columns stand as rows. Assumes nothing.
use mathlib.Core.Path.{◌≡◌}
use mathlib.Core.List.{◌++◌}
use Prim.Native.Nat.{◌*◌, ◌≤◌}
use lib.IntN.{pos}
use lib.ListN.{drop, replicate}
use Rattle.lists.specs.Lists.{table}
use Rattle.wht.specs.Pass.{passed_at}
use Rattle.wht.proofs.pass.Given as goal

abbrev pub invariant-loop-c : goal.invariant-loop-c
invariant-loop-c l = (l.c ≤ 4) × (l.t ≡ table (4 * l.c) (passed_at l.x) ++ drop (4 * l.c) (replicate 16 (pos 0)))
