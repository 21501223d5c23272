use Rattle.std.proofs.Common.{◌^◌, ◌<◌}
use Rattle.bool_decoder.specs.BoolCoder.{Coder}
use Rattle.bool_decoder.specs.Held.{Holds}
use Rattle.tokens.proofs.Trees.{Going}
use Rattle.tokens.proofs.tree.category.Given as goal

abbrev pub invariant-loop-p : goal.invariant-loop-p
invariant-loop-p l = (l.v < 2 ^ l.p-index) × ((c : Coder) → Holds l.src l.initial.e c → Going l.src l.ps l.p-index l.v l.e c)
