-- `dct::rows` meets its contract: each turn of the loop is a row of a block. Assumes nothing.
use mathlib.Core.Path.{refl}
use native.Mathlib.Omega.{arith}
use Rattle.lists.specs.Lists.{turns}
use Rattle.lists.proofs.Turns.{turns-step, turns-done}
use Rattle.dct.proofs.rows.Goals as goal

pub loop-q-init : goal.loop-q-init
unfolding turns
loop-q-init c = (omega arith, refl, refl)

pub loop-q-preserved : goal.loop-q-preserved
loop-q-preserved c =
    (omega arith, omega arith, turns-step _ _ _ _ _ c.loop-q.invariant.2 c.row_into.ensures)

pub returns : goal.returns
returns c = turns-done _ _ _ _ _ c.loop-q.invariant.2 c.loop-q.invariant.0 c.loop-q-test.false
