-- `quantiser::dequant` meets its contract. Assumes nothing.
use mathlib.Core.Path.{◌∙◌, ap}
use lib.IntN.{◌*ℤ◌}
use Rattle.whole.specs.Whole.{narrow}
use Rattle.whole.proofs.Held.{R32, held16}
use Rattle.whole.proofs.Chain.{Is, widened, times, held, fits32}
use Rattle.rfc6386.specs.Quantiser.{dequant}
use Rattle.quantiser.proofs.dequant.Goals as goal

product : (c : goal.After-widen-2)
    → Is 1073741824 (R32 c.widen.result *ℤ R32 c.widen-2.result) (c.args.x *ℤ c.args.factor)
product c =
    let f = c.ranges in
    times (widened f.x c.widen.ensures) (widened f.factor c.widen-2.ensures)

pub returns : goal.returns
unfolding dequant
returns c = held16 _ c.narrow.type_inv ∙ c.narrow.ensures ∙ ap narrow (held (product c.before) tt).is

pub overflow_mul-widen : goal.overflow_mul-widen
overflow_mul-widen c = fits32 (product c) tt
