-- `intra_subblock::predict_b4x4_into` meets its contract: each arm is what its function ensures. Assumes nothing.
use Rattle.rfc6386.specs.Subblock.{predict_b, sub_pixel}
use Rattle.intra_subblock.proofs.predict_b4x4_into.Goals as goal

pub returns-in-Dc : goal.returns-in-Dc
unfolding predict_b sub_pixel
returns-in-Dc c = rw c.in-Dc.is c.dc.ensures

pub returns-in-Tm : goal.returns-in-Tm
unfolding predict_b sub_pixel
returns-in-Tm c = rw c.in-Tm.is c.tm.ensures

pub returns-in-Ve : goal.returns-in-Ve
unfolding predict_b sub_pixel
returns-in-Ve c = rw c.in-Ve.is c.ve.ensures

pub returns-in-He : goal.returns-in-He
unfolding predict_b sub_pixel
returns-in-He c = rw c.in-He.is c.he.ensures

pub returns-in-Ld : goal.returns-in-Ld
unfolding predict_b sub_pixel
returns-in-Ld c = rw c.in-Ld.is c.ld.ensures

pub returns-in-Rd : goal.returns-in-Rd
unfolding predict_b sub_pixel
returns-in-Rd c = rw c.in-Rd.is (rw c.edge_e.ensures at c.rd.ensures)

pub returns-in-Vr : goal.returns-in-Vr
unfolding predict_b sub_pixel
returns-in-Vr c = rw c.in-Vr.is (rw c.edge_e-in-Vr.ensures at c.vr.ensures)

pub returns-in-Vl : goal.returns-in-Vl
unfolding predict_b sub_pixel
returns-in-Vl c = rw c.in-Vl.is c.vl.ensures

pub returns-in-Hd : goal.returns-in-Hd
unfolding predict_b sub_pixel
returns-in-Hd c = rw c.in-Hd.is (rw c.edge_e-in-Hd.ensures at c.hd.ensures)

pub returns-in-Hu : goal.returns-in-Hu
unfolding predict_b sub_pixel
returns-in-Hu c = rw c.in-Hu.is c.hu.ensures
