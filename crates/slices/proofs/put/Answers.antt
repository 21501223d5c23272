-- `slices::put` meets its contract. Assumes nothing.
use mathlib.Core.Path.{refl, ◌∙◌}
use Rattle.slices.specs.Copies.{copied, put_in}
use Rattle.slices.proofs.put.Goals as goal

pub returns : goal.returns
unfolding copied put_in
returns g c = c.copy.ensures ∙ rw c.told-elements refl
