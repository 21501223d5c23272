use Rattle.tokens.proofs.Blocks.{blocks-on, blocks-done}
use Rattle.tokens.proofs.all_blocks.Goals as goal

pub loop-n-preserved : goal.loop-n-preserved
loop-n-preserved c =
    let a = c.args in
    let l = c.loop-n in
    λ x h. blocks-on a.src.now a.probs.now a.zeros a.y2 _ l.n _ _ l.e c.one_block-e.result x c.loop-n-test.true c.one_block-e.ensures (l.invariant x h)

pub returns : goal.returns
returns c =
    let a = c.args in
    let l = c.loop-n in
    blocks-done a.src.now a.probs.now a.zeros a.y2 _ l.n _ a.d l.e c.loop-n-test.false l.invariant
