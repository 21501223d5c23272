use native.Mathlib.Omega.{arith}
use lib.ListN.{length-set}
use Rattle.edge_lines.proofs.Zip.{zip_more}
use Rattle.edge_lines.proofs.turn.shuffle.Goals as goal

pub loop-k-preserved : goal.loop-k-preserved
loop-k-preserved c =
    let l = c.loop-k in
    (omega arith, simp length-set l.invariant.1, zip_more c.args.b l.o l.k l.invariant.1 c.loop-k-test.true l.invariant.2)

pub returns : goal.returns
returns c = record { is = λ i p. c.loop-k.invariant.2 i (omega arith) }
