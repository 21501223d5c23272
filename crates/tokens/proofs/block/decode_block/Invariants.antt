use Rattle.std.proofs.Common.{◌≤◌}
use Rattle.bool_decoder.specs.BoolCoder.{Coder}
use Rattle.bool_decoder.specs.Held.{Holds}
use Rattle.tokens.proofs.Positions.{Going}
use Rattle.tokens.proofs.block.decode_block.Given as goal

abbrev pub invariant-loop-i : goal.invariant-loop-i
invariant-loop-i l = (l.row ≤ 1045) × ((c : Coder) → Holds l.src l.initial.e c → Going l.src l.probs l.base l.at l.zeros l.first l.from l.initial.out l.i l.row l.out l.some l.e c)
