-- `dct_line::rounded` meets its contract. Assumes nothing.
use mathlib.Core.Path.{◌∙◌, ap}
use lib.IntN.{ℤ, pos, ◌+ℤ◌}
use lib.Signed.{shr_z}
use mir.Facts.{to_z-of_z}
use Rattle.whole.specs.Whole.{wrap, narrow}
use Rattle.whole.proofs.Held.{held16, shr-held}
use Rattle.rfc6386.specs.Dct.{rounded}
use Rattle.dct_line.proofs.rounded.Goals as goal

pub returns : goal.returns
unfolding rounded
returns c =
    let n = c.narrow in
    let s = c.wrapping_add in
    held16 n.result n.type_inv ∙ n.ensures
    ∙ ap narrow
    (shr-held s.result 8 s.type_inv
    ∙ ap (λ (z : ℤ). shr_z z 8) (s.ensures ∙ ap (λ (x : ℤ). wrap (x +ℤ pos 4)) (to_z-of_z c.ranges.x)))
