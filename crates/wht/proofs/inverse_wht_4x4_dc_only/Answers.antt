-- `wht::inverse_wht_4x4_dc_only` meets its contract. Assumes nothing.
use native.Mathlib.Omega.{arith}
use mathlib.Core.Path.{◌∙◌, ap}
use lib.ListN.{replicate}
use Rattle.whole.proofs.Held.{held16}
use Rattle.whole.proofs.Chain.{widened, bound}
use Rattle.rfc6386.specs.Wht.{wht_round, iwht_dc}
use Rattle.wht.proofs.inverse_wht_4x4_dc_only.Goals as goal

pub round-v-requires : goal.round-v-requires
round-v-requires c = omega (arith, bound (widened c.ranges.dc c.from.ensures))

pub returns : goal.returns
unfolding iwht_dc
returns c =
    ap (replicate 16) (held16 _ c.round-v.type_inv ∙ c.round-v.ensures ∙ ap wht_round (widened c.ranges.dc c.from.ensures).is)
