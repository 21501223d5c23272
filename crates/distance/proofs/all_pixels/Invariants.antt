-- `distance::all_pixels` meets its contract. Assumes nothing.

use mathlib.Core.Path.{◌≡◌}
use Rattle.distance.specs.Stills.{start_of}
use Rattle.distance.proofs.all_pixels.Given as goal

abbrev pub invariant-loop-k : goal.invariant-loop-k
invariant-loop-k l = l.at ≡ start_of l.sizes l.k
