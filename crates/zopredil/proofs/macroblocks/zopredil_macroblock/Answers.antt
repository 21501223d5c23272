-- `zopredil::macroblocks::zopredil_macroblock` meets its contract. Assumes nothing.
use mathlib.Core.Path.{sym, ◌∙◌}
use Rattle.zopredil.proofs.Reconstructed.{modes-fit, record-fits, refused, unknown, given}
use Rattle.zopredil.proofs.macroblocks.zopredil_macroblock.Goals as goal

pub returns-then-not-fit : goal.returns-then-not-fit
returns-then-not-fit c = rw c.number.ensures (refused _ _ _ _ _ _ (sym c.lengths_fit-fit.ensures ∙ c.if-not-fit.true))

pub drawn-requires : goal.drawn-requires
drawn-requires c =
    let fit = sym c.lengths_fit-fit.ensures ∙ c.if-not-fit.false in (modes-fit _ _ _ _ _ _ fit, record-fits _ _ _ _ _ _ fit)

pub returns-in-Ok : goal.returns-in-Ok
returns-in-Ok c =
    let fit = sym c.lengths_fit-fit.ensures ∙ c.if-not-fit.false in
    let e = rw c.in-Ok.is at c.drawn.ensures in
    given _ _ _ _ _ _ fit _ _ _ _ e c.put_planes.ensures c.from.ensures c.put_count.ensures

pub returns-in-Err : goal.returns-in-Err
returns-in-Err c =
    let fit = sym c.lengths_fit-fit.ensures ∙ c.if-not-fit.false in
    let e = rw c.in-Err.is at c.drawn.ensures in
    unknown _ _ _ _ _ _ fit _ _ _ _ e c.number-in-Err.ensures c.clear.ensures c.put_count-in-Err.ensures
