-- `planes::y_whole` meets its contract. Assumes nothing.
use Rattle.planes.proofs.Whole.{y-skipped, y-coded}
use Rattle.planes.proofs.luma.y_whole.Goals as goal

pub returns-then-skip : goal.returns-then-skip
returns-then-skip c = rw c.if-skip.true (y-skipped _ _ _ _ c.predicted-px.ensures)

pub returns : goal.returns
returns c = rw c.if-skip.false (y-coded _ _ _ _ _ c.predicted-px.ensures c.coded.ensures)
