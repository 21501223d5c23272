-- `slices::clear` meets its contract. Assumes nothing.
use Rattle.slices.specs.Copies.{cleared}
use Rattle.slices.proofs.clear.Goals as goal

pub returns : goal.returns
unfolding cleared
returns c = c.fill.ensures.after (λ y e. e)
