-- `dct_line::odd_sum` meets its contract. Assumes nothing.
use mathlib.Core.Path.{◌∙◌, ap, ap₂}
use lib.IntN.{ℤ, ◌+ℤ◌}
use mir.Facts.{to_z-of_z}
use Rattle.whole.specs.Whole.{wrap}
use Rattle.whole.proofs.Held.{held32}
use Rattle.rfc6386.specs.Dct.{by_sin, by_cos}
use Rattle.dct_line.specs.Lines.{odd_sum}
use Rattle.dct_line.proofs.odd_sum.Goals as goal

pub returns : goal.returns
unfolding odd_sum
returns c =
    let r = c.wrapping_add in
    let q = c.by_sin in
    let p = c.by_cos in
    let f = c.ranges in
    held32 r.result r.type_inv ∙ r.ensures
    ∙ ap₂ (λ (x y : ℤ). wrap (x +ℤ y))
    (held32 p.result p.type_inv ∙ p.ensures ∙ ap by_cos (to_z-of_z f.i4))
    (held32 q.result q.type_inv ∙ q.ensures ∙ ap by_sin (to_z-of_z f.i12))
