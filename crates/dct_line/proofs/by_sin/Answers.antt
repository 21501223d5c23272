-- `dct_line::by_sin` meets its contract. Assumes nothing.
use mathlib.Core.Path.{◌∙◌, ap}
use lib.IntN.{ℤ, pos, ◌*ℤ◌}
use lib.Signed.{shr_z}
use mir.Facts.{to_z-of_z}
use Rattle.whole.specs.Whole.{wrap}
use Rattle.whole.proofs.Held.{held32}
use Rattle.rfc6386.specs.Dct.{by_sin}
use Rattle.dct_line.proofs.by_sin.Goals as goal

pub returns : goal.returns
unfolding by_sin
returns c =
    let h = c.high_half in
    let m = c.wrapping_mul in
    held32 h.result h.type_inv ∙ h.ensures
    ∙ ap (λ (z : ℤ). shr_z z 65536) (held32 m.result m.type_inv ∙ m.ensures ∙ ap (λ (x : ℤ). wrap (x *ℤ pos 35468)) (to_z-of_z c.ranges.x))
