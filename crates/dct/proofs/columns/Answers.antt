-- `dct::columns` meets its contract: each turn of the loop is a column. Assumes nothing.
use mathlib.Core.Path.{refl}
use native.Mathlib.Omega.{arith}
use Rattle.lists.specs.Lists.{turns}
use Rattle.lists.proofs.Turns.{turns-step, turns-done}
use Rattle.dct.proofs.columns.Goals as goal

pub loop-j-init : goal.loop-j-init
unfolding turns
loop-j-init c = (omega arith, refl, refl)

pub loop-j-preserved : goal.loop-j-preserved
loop-j-preserved c =
    (omega arith, omega arith, turns-step _ _ _ _ _ c.loop-j.invariant.2 c.column_into.ensures)

pub returns : goal.returns
returns c = turns-done _ _ _ _ _ c.loop-j.invariant.2 c.loop-j.invariant.0 c.loop-j-test.false
