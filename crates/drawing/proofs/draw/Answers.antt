-- `drawing::draw` meets its contract. Assumes nothing.
use mathlib.Core.Path.{refl}
use borrow.Author.Tests.{eq-eqb, ne_eqb}
use Rattle.std.proofs.lemmas.Result.{err_from_is_err_and}
use Rattle.drawing.specs.Drawn.{drawn}
use Rattle.drawing.proofs.Bytes.{picked-ok, picked-err}
use Rattle.drawing.proofs.draw.Goals as goal

pub returns-then-coeffs-ne400 : goal.returns-then-coeffs-ne400
unfolding drawn
returns-then-coeffs-ne400 c = rw (ne_eqb _ _ c.if-coeffs-ne400.true) refl

pub returns-in_err-modes : goal.returns-in_err-modes
unfolding drawn
returns-in_err-modes c =
    let p = err_from_is_err_and c.from_residual.result c.from_residual.ensures.1 in
    let k = picked-err _ _ _ _ c.in_err-modes.ensures in
    rw (p.1, p.2, k.1, eq-eqb _ _ c.if-coeffs-ne400.false, k.0) refl

pub returns : goal.returns
unfolding drawn
returns c =
    let k = picked-ok _ _ _ _ c.in_ok-modes.ensures in
    rw (eq-eqb _ _ c.if-coeffs-ne400.false, k.0, ← k.1) c.draw_in.ensures
