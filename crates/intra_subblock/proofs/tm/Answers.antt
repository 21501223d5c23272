-- `intra_subblock::tm` meets its contract: TM at n = 4. Assumes nothing.
use mathlib.Core.Path.{◌∙◌}
use native.Mathlib.Omega.{arith}
use Rattle.rfc6386.proofs.Subblock.{front, tm-at-four}
use Rattle.intra_subblock.proofs.tm.Goals as goal

pub returns : goal.returns
returns c =
    let x = c.args in
    (rw (front x.a (omega arith)) at c.predict_b4x4_tm.ensures) ∙ tm-at-four x.a x.l x.p
