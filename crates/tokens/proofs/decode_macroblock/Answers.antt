use Rattle.std.proofs.Common.{length, arith}
use borrow.Author.Tests.{eq-eqb, ne_eqb}
use Rattle.tokens.specs.Answers.{decoded}
use Rattle.tokens.proofs.decode_macroblock.Goals as goal

pub returns-then-probs-ne1056 : goal.returns-then-probs-ne1056
unfolding decoded
returns-then-probs-ne1056 c = rw (ne_eqb _ 1056 c.if-probs-ne1056.true)

pub returns-then-no_zero : goal.returns-then-no_zero
unfolding decoded
returns-then-no_zero c = rw (eq-eqb (length c.args.probs.now) 1056 (omega (arith, c.if-probs-ne1056.false)), ← c.no_zero.ensures, c.if-no_zero.true) c.walk_macroblock.ensures

pub returns-else-no_zero : goal.returns-else-no_zero
unfolding decoded
returns-else-no_zero c = rw (eq-eqb (length c.args.probs.now) 1056 (omega (arith, c.if-probs-ne1056.false)), ← c.no_zero.ensures, c.if-no_zero.false)
