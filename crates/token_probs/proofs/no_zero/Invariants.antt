use Rattle.std.proofs.Common.{◌≡◌, ◌&&◌, drop}
use Rattle.token_probs.specs.Answers.{no_zero}
use Rattle.token_probs.proofs.no_zero.Given as goal

abbrev pub invariant-loop-p : goal.invariant-loop-p
invariant-loop-p l = l.all && no_zero (drop l.p-index l.probs) ≡ no_zero l.probs
