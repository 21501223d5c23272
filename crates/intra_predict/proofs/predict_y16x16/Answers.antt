-- `intra_predict::predict_y16x16` meets its contract: each arm is what its function ensures, and B is refused. Assumes nothing.
use Rattle.rfc6386.specs.Edges.{predict_y}
use Rattle.intra_predict.specs.Luma.{predicted_y}
use Rattle.intra_predict.proofs.predict_y16x16.Goals as goal

pub returns-in-Dc : goal.returns-in-Dc
unfolding predicted_y predict_y
returns-in-Dc c = rw c.in-Dc.is (rw c.predict_y16x16_dc.ensures)

pub returns-in-V : goal.returns-in-V
unfolding predicted_y predict_y
returns-in-V c = rw c.in-V.is (rw c.predict_y16x16_v.ensures)

pub returns-in-H : goal.returns-in-H
unfolding predicted_y predict_y
returns-in-H c = rw c.in-H.is (rw c.predict_y16x16_h.ensures)

pub returns-in-Tm : goal.returns-in-Tm
unfolding predicted_y predict_y
returns-in-Tm c = rw c.in-Tm.is (rw c.predict_y16x16_tm.ensures)

pub returns-in-B : goal.returns-in-B
unfolding predicted_y predict_y
returns-in-B c = rw c.in-B.is
