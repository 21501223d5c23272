-- `distance::lengths_ok` meets its contract. Assumes nothing.
use mathlib.Core.Path.{◌∙◌}
use Rattle.distance.proofs.Sizes.{by-lengths}
use Rattle.distance.proofs.lengths_ok.Goals as goal

pub returns : goal.returns
returns c = let a = c.args in c.eq.ensures ∙ rw c.all_pixels-n.ensures (by-lengths a.sizes.now a.drawn a.measured a.reports)
