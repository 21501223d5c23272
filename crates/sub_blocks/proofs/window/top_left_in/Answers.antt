-- `sub_blocks::window::top_left_in` meets its contract. Assumes nothing.
use Prim.Native.Nat.{◌-◌}
use mathlib.Core.Path.{◌≡◌}
use Rattle.rfc6386.specs.Walk.{top_left_in}
use native.Mathlib.Omega.{arith}
use Rattle.sub_blocks.proofs.window.top_left_in.Goals as goal

pub returns : goal.returns
unfolding top_left_in
returns c = let e : c.args.corner.at - 21 - 1 ≡ c.args.corner.at - 22 = omega arith in rw e
