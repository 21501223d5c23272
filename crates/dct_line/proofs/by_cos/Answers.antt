-- `dct_line::by_cos` meets its contract. Assumes nothing.
use mathlib.Core.Path.{◌∙◌, ap, ap₂}
use lib.IntN.{ℤ, pos, ◌+ℤ◌, ◌*ℤ◌}
use lib.Signed.{shr_z}
use mir.Facts.{to_z-of_z}
use Rattle.whole.specs.Whole.{wrap}
use Rattle.whole.proofs.Held.{held32}
use Rattle.rfc6386.specs.Dct.{by_cos}
use Rattle.dct_line.proofs.by_cos.Goals as goal

pub returns : goal.returns
unfolding by_cos
returns c =
    let s = c.wrapping_add in
    let h = c.high_half in
    let m = c.wrapping_mul in
    let e = to_z-of_z c.ranges.x in
    held32 s.result s.type_inv ∙ s.ensures
    ∙ ap₂ (λ (x z : ℤ). wrap (x +ℤ z)) e
    (held32 h.result h.type_inv ∙ h.ensures
    ∙ ap (λ (z : ℤ). shr_z z 65536) (held32 m.result m.type_inv ∙ m.ensures ∙ ap (λ (x : ℤ). wrap (x *ℤ pos 20091)) e))
