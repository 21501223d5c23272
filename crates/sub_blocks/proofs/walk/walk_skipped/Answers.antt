-- `sub_blocks::walk::walk_skipped` meets its contract. Assumes nothing.
use mathlib.Core.Path.{refl}
use Rattle.lists.specs.Lists.{turns}
use Rattle.lists.proofs.Turns.{turns-step, turns-done}
use native.Mathlib.Omega.{arith}
use Rattle.sub_blocks.proofs.walk.walk_skipped.Goals as goal

pub loop-k-init : goal.loop-k-init
unfolding turns
loop-k-init c = (omega arith, refl)

pub loop-k-preserved : goal.loop-k-preserved
loop-k-preserved c = (omega arith, turns-step _ _ _ _ _ c.loop-k.invariant.1 c.skipped_block.ensures)

pub returns : goal.returns
returns c = turns-done _ _ _ _ _ c.loop-k.invariant.1 c.loop-k.invariant.0 (omega arith)
