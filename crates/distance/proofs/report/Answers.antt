-- `distance::report` meets its contract. Assumes nothing.
use mathlib.Core.Path.{refl}
use Rattle.distance.specs.Stills.{report_of}
use Rattle.distance.proofs.report.Goals as goal

pub returns : goal.returns
unfolding report_of
returns c = refl
