-- `zopredil::transforms::zopredil_inverse_wht_dc_only` meets its contract. Assumes nothing.
use mathlib.Core.Path.{refl, ap, ◌∙◌}
use borrow.Author.Tests.{eq-eqb, ne_eqb}
use mir.Facts.{to_z-of_z}
use Rattle.rfc6386.specs.Wht.{iwht_dc}
use Rattle.slices.proofs.Copied.{put_fit}
use Rattle.lists.proofs.Pairs.{pair}
use Rattle.zopredil.specs.Transforms.{wht_dc_answer}
use Rattle.zopredil.proofs.transforms.zopredil_inverse_wht_dc_only.Goals as goal

pub returns-then-out-ne16 : goal.returns-then-out-ne16
unfolding wht_dc_answer
returns-then-out-ne16 c = rw (ne_eqb _ _ c.if-out-ne16.true, c.number.ensures) refl

pub returns : goal.returns
unfolding wht_dc_answer
returns c =
    let fit = c.if-out-ne16.false in
    rw (eq-eqb _ _ fit) (pair refl ((c.put.ensures ∙ put_fit 16 _ _ fit) ∙ c.inverse_wht_4x4_dc_only.ensures
    ∙ ap iwht_dc (to_z-of_z c.ranges.dc)))
