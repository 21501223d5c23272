use Rattle.bool_decoder.specs.BoolCoder.{Coder}
use Rattle.bool_decoder.specs.Held.{Holds}
use Rattle.tokens.specs.Walks.{thread_of}
use Rattle.tokens.proofs.Blocks.{Going}
use Rattle.tokens.proofs.all_blocks.Given as goal

abbrev pub invariant-loop-n : goal.invariant-loop-n
invariant-loop-n l = (c : Coder) → Holds l.src l.initial.e c → Going l.src l.probs l.zeros l.y2 (thread_of l.initial.above l.initial.left l.initial.out) l.n (thread_of l.above l.left l.out) l.e c
