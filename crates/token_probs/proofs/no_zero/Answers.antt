use Rattle.std.proofs.Common.{refl, arith}
use Rattle.token_probs.proofs.Zeros.{zero_more, zero-done}
use Rattle.token_probs.proofs.no_zero.Goals as goal

pub loop-p-preserved : goal.loop-p-preserved
loop-p-preserved c =
    let l = c.loop-p in
    zero_more _ l.p-index l.all _ c.loop-p-test.true refl l.invariant

pub returns : goal.returns
returns c = let l = c.loop-p in zero-done _ l.p-index l.all (omega arith) c.loop-p-test.false l.invariant
