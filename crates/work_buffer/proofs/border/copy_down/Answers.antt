-- `work_buffer::border::copy_down` meets its contract. Assumes nothing.
use mathlib.Core.Path.{refl, ◌∙◌}
use Rattle.lists.specs.Lists.{turns}
use Rattle.lists.proofs.Turns.{turns-step, turns-done}
use Rattle.work_buffer.proofs.Down.{down-all}
use native.Mathlib.Omega.{arith}
use Rattle.work_buffer.proofs.border.copy_down.Goals as goal

pub loop-i-init : goal.loop-i-init
unfolding turns
loop-i-init c = (omega arith, refl)

pub loop-i-preserved : goal.loop-i-preserved
loop-i-preserved c = (omega arith, turns-step _ _ _ _ _ c.loop-i.invariant.1 c.lay.ensures)

pub returns : goal.returns
returns c = turns-done _ _ _ _ _ c.loop-i.invariant.1 c.loop-i.invariant.0 c.loop-i-test.false ∙ down-all _ _
