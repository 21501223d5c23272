-- `intra_predict::predict_uv8x8` meets its contract: each arm is what its function ensures. Assumes nothing.
use Rattle.rfc6386.specs.Edges.{predict_uv}
use Rattle.intra_predict.proofs.predict_uv8x8.Goals as goal

pub returns-in-Dc : goal.returns-in-Dc
unfolding predict_uv
returns-in-Dc c = rw c.in-Dc.is c.predict_uv8x8_dc.ensures

pub returns-in-V : goal.returns-in-V
unfolding predict_uv
returns-in-V c = rw c.in-V.is c.predict_uv8x8_v.ensures

pub returns-in-H : goal.returns-in-H
unfolding predict_uv
returns-in-H c = rw c.in-H.is c.predict_uv8x8_h.ensures

pub returns-in-Tm : goal.returns-in-Tm
unfolding predict_uv
returns-in-Tm c = rw c.in-Tm.is c.predict_uv8x8_tm.ensures
