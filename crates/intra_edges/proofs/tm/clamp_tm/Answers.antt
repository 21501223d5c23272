-- `intra_edges::tm::clamp_tm` meets its contract: the law of TM in numbers that are never negative. Assumes nothing.
use native.Mathlib.Omega.{arith}
use Rattle.rfc6386.proofs.Tm.{tm-least}
use Rattle.intra_edges.proofs.tm.clamp_tm.Goals as goal

pub returns : goal.returns
returns c = rw tm-least (omega arith)
