-- `plane_distance::square` meets its contract. Assumes nothing.
use Prim.Native.Nat.{ℕ, ◌*◌, ◌≤◌}
use mathlib.Core.Path.{refl}
use native.Mathlib.Nat.{mul-le-mul}
use native.Mathlib.Omega.{arith}
use Rattle.plane_distance.proofs.square.Goals as goal

small : (g : ℕ) → g ≤ 255 → g * g ≤ 65025
small g h = mul-le-mul h h

pub overflow_mul-result : goal.overflow_mul-result
overflow_mul-result c = rw (c.from.ensures, c.from-2.ensures) (omega (arith, small c.args.g (omega arith)))

pub returns : goal.returns
returns c = rw (c.from.ensures, c.from-2.ensures) (refl, small c.args.g (omega arith))
