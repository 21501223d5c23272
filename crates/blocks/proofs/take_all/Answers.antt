-- `blocks::take_all` meets its contract. Assumes nothing.
use mathlib.Core.Path.{◌∙◌}
use Rattle.blocks.proofs.Places.{part-taken}
use Rattle.blocks.proofs.take_all.Goals as goal

pub returns : goal.returns
returns c = c.copy_from_slice.ensures.after ∙ part-taken _ _ _ c.requires
