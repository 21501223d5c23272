-- `drawing::sub_modes_of` meets its contract. Assumes nothing.
use mathlib.Core.Bool.{true}
use mathlib.Core.Path.{◌≡◌}
use mathlib.Core.List.{◌++◌}
use lib.ListN.{get_or, length, drop}
use Rattle.lists.specs.Lists.{table, within}
use Rattle.macroblock.specs.Says.{b_mode}
use Rattle.drawing.proofs.sub_modes_of.Given as goal

abbrev pub invariant-loop-k : goal.invariant-loop-k
invariant-loop-k l = record {
  known : true ≡ within 9 l.k l.fn.bytes;
  made : l.modes ≡ table l.k (λ i. b_mode (get_or l.fn.bytes i 0)) ++ drop l.k l.initial.modes;
  sized : length l.modes ≡ 16;
}
