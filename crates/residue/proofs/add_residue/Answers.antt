-- `residue::add_residue` meets its contract. Assumes nothing.
use mathlib.Core.Path.{sym, ◌∙◌}
use Rattle.residue.proofs.Answers.{same-lengths-say, residue-given, residue-refused}
use Rattle.residue.proofs.add_residue.Goals as goal

pub add_all-requires : goal.add_all-requires
add_all-requires c = same-lengths-say _ _ _ (sym c.same_lengths.ensures ∙ c.if-same_lengths.true)

pub returns-then-same_lengths : goal.returns-then-same_lengths
returns-then-same_lengths c =
    residue-given _ _ _ _ (sym c.same_lengths.ensures ∙ c.if-same_lengths.true) c.add_all.ensures

pub returns : goal.returns
returns c = residue-refused _ _ _ (sym c.same_lengths.ensures ∙ c.if-same_lengths.false)
