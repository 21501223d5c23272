-- `residue::sum` meets its contract. Assumes nothing.
use mathlib.Core.Path.{ap, ◌∙◌}
use native.Mathlib.Omega.{arith}
use lib.IntN.{pos, ◌+ℤ◌}
use Rattle.whole.specs.Whole.{clamp}
use Rattle.whole.proofs.Held.{R32}
use Rattle.whole.proofs.Chain.{Is, widened, plus, held}
use Rattle.rfc6386.specs.Residue.{sum}
use Rattle.residue.proofs.sum.Goals as goal
use Rattle.residue.proofs.sum.Goals.{After-from-2}

-- the pixel and the sum, as the machine has them
pixel : (c : After-from-2) → Is 255 (R32 c.from.result) (pos c.args.p)
pixel c = held (record { is = c.from.ensures; small = omega arith }) tt

total : (c : After-from-2) → Is 33023 (R32 c.from.result +ℤ R32 c.from-2.result) (pos c.args.p +ℤ c.args.r)
total c = plus (pixel c) (widened c.ranges.r c.from-2.ensures)

pub returns : goal.returns
unfolding sum
returns c = c.clamp255.ensures ∙ ap clamp (held (total (goal.at.returns c).After-from-2) tt).is
