-- `zopredil::macroblocks::sub_modes_fit` meets its contract. Assumes nothing.
use mathlib.Core.Path.{refl}
use borrow.Author.Tests.{eq-eqb, ne_eqb}
use Rattle.zopredil.specs.Macroblocks.{sub_modes_fit}
use Rattle.zopredil.proofs.macroblocks.sub_modes_fit.Goals as goal

pub returns-then-sub_modes-eq16 : goal.returns-then-sub_modes-eq16
unfolding sub_modes_fit
returns-then-sub_modes-eq16 c = rw (eq-eqb _ _ c.if-sub_modes-eq16.true) refl

pub returns-else-sub_modes-eq16 : goal.returns-else-sub_modes-eq16
unfolding sub_modes_fit
returns-else-sub_modes-eq16 c = rw (ne_eqb _ _ c.if-sub_modes-eq16.false) refl
