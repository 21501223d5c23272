-- `zopredil::transforms::zopredil_add_residue` meets its contract. Assumes nothing.
use mathlib.Core.Path.{◌∙◌}
use Rattle.lists.proofs.Pairs.{pair}
use Rattle.zopredil.specs.Transforms.{residue_answer}
use Rattle.zopredil.proofs.transforms.zopredil_add_residue.Goals as goal

pub returns : goal.returns
unfolding residue_answer
returns c = let called = c.add_residue.ensures in pair (c.number.ensures ∙ called.0) called.1
