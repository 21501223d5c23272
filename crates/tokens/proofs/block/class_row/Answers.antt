use native.Mathlib.Omega.{arith}
use borrow.Author.Tests.{eq-eqb, ne_eqb}
use Rattle.tokens.proofs.block.class_row.Goals as goal

pub returns-then-size-eq1 : goal.returns-then-size-eq1
returns-then-size-eq1 c = (rw (eq-eqb _ 1 c.if-size-eq1.true), omega arith)

pub returns-else-size-eq1 : goal.returns-else-size-eq1
returns-else-size-eq1 c = (rw (ne_eqb _ 1 c.if-size-eq1.false), omega arith)
