-- `intra_edges::dc::mean` meets its contract: a rounded mean of bytes is a byte. Assumes nothing.
use native.Mathlib.Nat.{div-lt_iff_lt-mul}
use native.Mathlib.Omega.{arith}
use Rattle.intra_edges.proofs.dc.mean.Goals as goal

pub overflow_cast-result : goal.overflow_cast-result
overflow_cast-result c = record { fits = (div-lt_iff_lt-mul c.requires.0).1 (omega arith) }
