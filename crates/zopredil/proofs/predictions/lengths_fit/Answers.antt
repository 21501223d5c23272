-- `zopredil::predictions::lengths_fit` meets its contract. Assumes nothing.
use mathlib.Core.Path.{refl}
use Rattle.zopredil.specs.Predictions.{lengths_fit}
use Rattle.zopredil.proofs.predictions.lengths_fit.Goals as goal
use Rattle.zopredil.proofs.predictions.lengths_fit.Goals.{then-edge_fits, else-edge_fits}

pub returns-then-edge_fits-2 : goal.returns-then-edge_fits-2
unfolding lengths_fit
returns-then-edge_fits-2 c =
    elim c.if-edge_fits.branch [
      | then-edge_fits w ↦
          rw (← c.edge_fits.ensures, w.if-edge_fits.true, ← w.edge_fits-then-edge_fits.ensures, ← w.value-is, c.if-edge_fits-2.true) refl
      | else-edge_fits w ↦ let a = c.if-edge_fits-2.true in let b = w.value-is in cc
    ]

pub returns-else-edge_fits-2 : goal.returns-else-edge_fits-2
unfolding lengths_fit
returns-else-edge_fits-2 c =
    elim c.if-edge_fits.branch [
      | then-edge_fits w ↦
          rw (
            c.if-edge_fits-2.false,
            ← c.edge_fits.ensures,
            w.if-edge_fits.true,
            ← w.edge_fits-then-edge_fits.ensures,
            ← w.value-is,
            c.if-edge_fits-2.false,
          )
          refl
      | else-edge_fits w ↦ rw (c.if-edge_fits-2.false, ← c.edge_fits.ensures, w.if-edge_fits.false) refl
    ]
