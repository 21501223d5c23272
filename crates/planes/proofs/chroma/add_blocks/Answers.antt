-- `planes::chroma::add_blocks` meets its contract. Assumes nothing.
use mathlib.Core.Path.{refl, ◌∙◌}
use Rattle.lists.specs.Lists.{turns}
use Rattle.lists.proofs.Turns.{turns-step, turns-done}
use native.Mathlib.Omega.{arith}
use Rattle.planes.proofs.chroma.add_blocks.Goals as goal

pub loop-r-init : goal.loop-r-init
unfolding turns
loop-r-init c = (omega arith, refl)

pub loop-r-preserved : goal.loop-r-preserved
loop-r-preserved c = (omega arith, turns-step _ _ _ _ _ c.loop-r.invariant.1 (c.add_run.ensures ∙ rw c.residues_at.ensures))

pub returns : goal.returns
returns c = turns-done _ _ _ _ _ c.loop-r.invariant.1 c.loop-r.invariant.0 c.loop-r-test.false
