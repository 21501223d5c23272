-- `work_buffer::border::lay` meets its contract. Turn i stores pixel i at + i * step. Assumes nothing.
use mathlib.Core.Path.{refl}
use Rattle.lists.specs.Lists.{turns}
use Rattle.lists.proofs.Turns.{turns_more, turns-done}
use Rattle.lists.proofs.Rows.{row_within}
use Rattle.rfc6386.specs.Walk.{laid}
use native.Mathlib.Omega.{arith}
use Rattle.work_buffer.proofs.border.lay.Goals as goal

pub loop-i-init : goal.loop-i-init
unfolding turns
loop-i-init c = (omega arith, refl)

-- there is room for a whole step
pub overflow_mul-b : goal.overflow_mul-b
overflow_mul-b c = let h = row_within c.args.step c.args.n c.loop-i.i c.loop-i-test.true in omega arith

pub overflow_add-b : goal.overflow_add-b
overflow_add-b c = let h = row_within c.args.step c.args.n c.loop-i.i c.loop-i-test.true in omega arith

pub bounds-b-at : goal.bounds-b-at
bounds-b-at c = let h = row_within c.args.step c.args.n c.loop-i.i c.loop-i-test.true in omega arith

pub loop-i-preserved : goal.loop-i-preserved
loop-i-preserved c = (omega arith, turns_more _ _ _ _ c.loop-i.invariant.1)

pub returns : goal.returns
unfolding laid
returns c = turns-done _ _ _ _ _ c.loop-i.invariant.1 c.loop-i.invariant.0 c.loop-i-test.false
