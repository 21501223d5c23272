-- `dct::beside` meets its contract: each turn of the loop puts a row of a block in its place. Assumes nothing.
use mathlib.Core.Path.{refl}
use native.Mathlib.Omega.{arith}
use Rattle.lists.specs.Lists.{turns}
use Rattle.lists.proofs.Turns.{turns-step, turns-done}
use Rattle.dct.specs.Turns.{besides}
use borrow.Author.Rules.{rules}
use Rattle.dct.proofs.beside.Goals as goal

pub loop-k-init : goal.loop-k-init
unfolding turns
loop-k-init c = (omega arith, refl, refl)

pub loop-k-preserved : goal.loop-k-preserved
loop-k-preserved c =
    (omega arith, search rules, turns-step _ _ _ _ _ c.loop-k.invariant.2 c.widen_into.ensures)

pub returns : goal.returns
unfolding besides
returns c = turns-done _ _ _ _ _ c.loop-k.invariant.2 c.loop-k.invariant.0 c.loop-k-test.false
