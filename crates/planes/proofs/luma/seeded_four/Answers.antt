-- `planes::luma::seeded_four` meets its contract. Assumes nothing.
use mathlib.Core.Path.{refl, ◌∙◌}
use Rattle.lists.specs.Lists.{turns}
use Rattle.lists.proofs.Turns.{turns-step, turns-done}
use Rattle.planes.specs.Steps.{seeded_four}
use native.Mathlib.Omega.{arith}
use borrow.Author.Rules.{rules}
use Rattle.planes.proofs.luma.seeded_four.Goals as goal

pub loop-j-init : goal.loop-j-init
unfolding turns
loop-j-init c = (omega arith, refl)

pub loop-j-preserved : goal.loop-j-preserved
loop-j-preserved c = (omega arith, turns-step _ _ _ _ _ c.loop-j.invariant.1 (search rules))

pub returns : goal.returns
unfolding seeded_four
returns c = turns-done _ _ _ _ _ c.loop-j.invariant.1 c.loop-j.invariant.0 c.loop-j-test.false ∙ rw c.four-s.ensures
