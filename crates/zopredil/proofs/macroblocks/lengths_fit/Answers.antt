-- `zopredil::macroblocks::lengths_fit` meets its contract. Assumes nothing.
use mathlib.Core.Path.{◌∙◌}
use lib.Dec.{eqb}
use Rattle.lists.specs.Lists.{both}
use Rattle.zopredil.specs.Macroblocks.{lengths_fit}
use Rattle.zopredil.proofs.Reconstructed.{all-fit, none-fit}
use Rattle.zopredil.proofs.macroblocks.lengths_fit.Goals as goal

pub returns-then-sub_modes_fit : goal.returns-then-sub_modes_fit
unfolding lengths_fit
returns-then-sub_modes_fit c =
    let a = c.args in
    rw (← c.sub_modes_fit.ensures, c.if-sub_modes_fit.true)
    (c.eq.ensures ∙ all-fit (eqb a.modes 3) (eqb a.«record» 81) (eqb a.coeffs 400) (eqb a.out 384) (eqb a.clipped 1))

pub returns-else-sub_modes_fit : goal.returns-else-sub_modes_fit
unfolding lengths_fit
returns-else-sub_modes_fit c =
    let a = c.args in
    rw (← c.sub_modes_fit.ensures, c.if-sub_modes_fit.false)
    (none-fit (eqb a.modes 3) (both (eqb a.«record» 81) (both (eqb a.coeffs 400) (both (eqb a.out 384) (eqb a.clipped 1)))))
