use native.Mathlib.Omega.{arith}
use Rattle.filter_limits.proofs.Small.{interior-small}
use Rattle.filter_limits.proofs.limits.Goals as goal

pub overflow_add-result : goal.overflow_add-result
overflow_add-result c = omega (arith, c.interior_limit-interior.ensures, interior-small c.args.level c.args.sharp c.requires.1)
