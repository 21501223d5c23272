-- `distance::pixels` meets its contract: at most 1,024 by 1,024 macroblocks. Assumes nothing.
use mathlib.Core.Path.{refl}
use native.Mathlib.Omega.{arith}
use Rattle.distance.specs.Stills.{pixels_of}
use Rattle.distance.proofs.Sizes.{area-≤}
use Rattle.distance.proofs.pixels.Goals as goal

pub overflow_mul-result : goal.overflow_mul-result
overflow_mul-result c = omega (arith, area-≤ c.args.sizes.now c.requires.1 c.args.k c.requires.0)

pub overflow_mul-result-2 : goal.overflow_mul-result-2
overflow_mul-result-2 c = omega (arith, area-≤ c.args.sizes.now c.requires.1 c.args.k c.requires.0)

pub returns : goal.returns
unfolding pixels_of
returns c = refl
