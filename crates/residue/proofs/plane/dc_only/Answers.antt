-- `residue::plane::dc_only` meets its contract: an eighth of a number of 16 bits, and of 4 more, is one of 16 bits. Assumes nothing.
use mathlib.Core.Path.{◌∙◌, ap}
use Prim.Native.Nat.{◌≤◌}
use native.Mathlib.Omega.{arith}
use lib.IntN.{ℤ, pos, negsuc, nat_abs, ◌+ℤ◌}
use lib.ListN.{replicate}
use lib.Signed.{shr_z}
use mir.Syntax.{w16}
use mir.Val.{SFits}
use Rattle.whole.specs.Whole.{narrow}
use Rattle.whole.proofs.Held.{R32, held16}
use Rattle.whole.proofs.Chain.{Is, widened, plus, lit, down, held, fits32}
use Rattle.whole.proofs.Modulo.{narrow-held}
use Rattle.rfc6386.specs.Dct.{idct_dc}
use Rattle.residue.proofs.plane.dc_only.Goals as goal
use Rattle.residue.proofs.plane.dc_only.Goals.{After-from}

-- the closing rounding
abbrev closing : ℤ
closing = pos 4

total : (c : After-from) → Is 32772 (R32 c.from.result +ℤ closing) (c.args.dc +ℤ closing)
total c = plus (widened c.ranges.dc c.from.ensures) (lit closing)

short : (z : ℤ) → nat_abs z ≤ 32772 → SFits w16 (shr_z z 8)
short (pos n) h = record { sfits = omega arith }
short (negsuc n) h = record { sfits = omega arith }

pub returns : goal.returns
unfolding idct_dc
returns c =
    let sum = total (goal.at.returns c).After-from in
    let z = c.args.dc +ℤ closing in
    ap (replicate 16)
    (held16 _ c.narrow-v.type_inv ∙ c.narrow-v.ensures ∙ ap narrow (held (down (held sum tt) 8) tt).is ∙ narrow-held (shr_z z 8) (short z sum.small))

pub overflow_add-from : goal.overflow_add-from
overflow_add-from c = fits32 (total c) tt
