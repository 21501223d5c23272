-- `slices::put_planes` meets its contract. Assumes nothing.
use mathlib.Core.Path.{refl}
use borrow.Author.Tests.{eq-eqb, ne_eqb}
use Rattle.slices.specs.Copies.{put_in}
use Rattle.slices.proofs.put_planes.Goals as goal

pub returns-then-to-eq384 : goal.returns-then-to-eq384
unfolding put_in
returns-then-to-eq384 c = rw (eq-eqb _ _ c.if-to-eq384.true) c.lay.ensures

pub returns-else-to-eq384 : goal.returns-else-to-eq384
unfolding put_in
returns-else-to-eq384 c = rw (ne_eqb _ _ c.if-to-eq384.false) refl
