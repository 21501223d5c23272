-- `residue::same_lengths` meets its contract. Assumes nothing.
use mathlib.Core.Path.{refl}
use borrow.Author.Tests.{eq-eqb, ne_eqb}
use Rattle.residue.specs.Answer.{same_lengths}
use Rattle.residue.proofs.same_lengths.Goals as goal

pub returns-then-residue-prediction : goal.returns-then-residue-prediction
unfolding same_lengths
returns-then-residue-prediction c = rw (eq-eqb _ _ c.if-residue-prediction.true) refl

pub returns-else-residue-prediction : goal.returns-else-residue-prediction
unfolding same_lengths
returns-else-residue-prediction c = rw (ne_eqb _ _ c.if-residue-prediction.false) refl
