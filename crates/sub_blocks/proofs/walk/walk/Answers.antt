-- `sub_blocks::walk::walk` meets its contract. Assumes nothing.
use mathlib.Core.Path.{◌∙◌}
use Rattle.sub_blocks.proofs.Walked.{skipped-all}
use Rattle.sub_blocks.proofs.Counts.{skipped-none}
use Rattle.sub_blocks.proofs.walk.walk.Goals as goal

pub returns-then-skip : goal.returns-then-skip
returns-then-skip c = rw c.if-skip.true (c.walk_skipped.ensures ∙ skipped-all _ _ _, skipped-none _ _ _)

pub returns : goal.returns
returns c = rw c.if-skip.false c.walk_coded.ensures
