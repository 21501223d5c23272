-- `clipping::over` meets its contract. Assumes nothing.
use mathlib.Core.Path.{ap, ◌∙◌}
use native.Mathlib.Omega.{arith}
use lib.IntN.{pos, ◌+ℤ◌}
use Rattle.whole.proofs.Held.{R32}
use Rattle.whole.proofs.Chain.{Is, widened, plus, held}
use Rattle.clipping.specs.Clipped.{outside, over}
use Rattle.clipping.proofs.over.Goals as goal
use Rattle.clipping.proofs.over.Goals.{After-from-2}

-- the pixel, as the machine has it
pixel : (c : After-from-2) → Is 255 (R32 c.from.result) (pos c.args.p)
pixel c = held (record { is = c.from.ensures; small = omega arith }) tt

total : (c : After-from-2) → Is 33023 (R32 c.from.result +ℤ R32 c.from-2.result) (pos c.args.p +ℤ c.args.r)
total c = plus (pixel c) (widened c.ranges.r c.from-2.ensures)

pub returns : goal.returns
unfolding over
returns c = c.outside.ensures ∙ ap outside (held (total c.before) tt).is
