-- `drawing::draw_with` meets its contract. Assumes nothing.
use mathlib.Core.Path.{refl}
use borrow.Author.Tests.{eq-eqb, ne_eqb}
use Rattle.drawing.specs.Drawn.{drawn_with}
use Rattle.drawing.proofs.draw_with.Goals as goal

pub returns-then-coeffs-ne400 : goal.returns-then-coeffs-ne400
unfolding drawn_with
returns-then-coeffs-ne400 c = rw (ne_eqb _ _ c.if-coeffs-ne400.true) refl

pub returns : goal.returns
unfolding drawn_with
returns c = rw (eq-eqb _ _ c.if-coeffs-ne400.false) c.draw_in.ensures
