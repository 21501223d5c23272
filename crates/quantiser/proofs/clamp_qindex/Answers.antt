-- `quantiser::clamp_qindex` meets its contract. Assumes nothing.
use mathlib.Core.Path.{ap, ◌∙◌}
use lib.IntN.{ℤ, pos, nat_abs}
use mir.Facts.{to_z-of_z}
use Rattle.whole.proofs.Held.{R32, held32}
use Rattle.rfc6386.specs.Quantiser.{clamp_index}
use Rattle.quantiser.proofs.Read.{clamped}
use Rattle.quantiser.proofs.clamp_qindex.Goals as goal

pub returns : goal.returns
unfolding clamp_index
returns c =
    let q = to_z-of_z c.ranges.q in
    ap nat_abs (held32 _ c.clamp.type_inv ∙ c.clamp.ensures.value ∙ clamped (R32 c.args.q) 127 ∙ ap (λ (z : ℤ). pos (clamp_index z)) q)
