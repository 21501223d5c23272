-- `zopredil::predictions::edge_fits` meets its contract. Assumes nothing.
use mathlib.Core.Path.{refl}
use borrow.Author.Tests.{eq-eqb, ne_eqb}
use Rattle.zopredil.specs.Predictions.{edge_fits}
use Rattle.zopredil.proofs.predictions.edge_fits.Goals as goal

pub returns-then-edge-n : goal.returns-then-edge-n
unfolding edge_fits
returns-then-edge-n c = rw (eq-eqb _ _ c.if-edge-n.true) refl

pub returns-else-edge-n : goal.returns-else-edge-n
unfolding edge_fits
returns-else-edge-n c = rw (ne_eqb _ _ c.if-edge-n.false) refl
