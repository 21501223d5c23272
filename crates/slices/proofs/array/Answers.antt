-- `slices::array` meets its contract. Assumes nothing.
use mathlib.Core.Path.{refl, ◌∙◌}
use lib.ListN.{length-replicate}
use Rattle.slices.specs.Copies.{copied, or_zeros}
use Rattle.slices.proofs.array.Goals as goal

pub returns : goal.returns
unfolding copied or_zeros
returns g c = c.copy.ensures ∙ rw length-replicate refl
