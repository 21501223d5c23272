use Rattle.std.proofs.Common.{arith}
use Rattle.tokens.specs.Answers.{blank}
use Rattle.tokens.proofs.Told.{answer-past, answer-done}
use Rattle.tokens.proofs.answer.Goals as goal

pub returns-then-src-state : goal.returns-then-src-state
unfolding blank
returns-then-src-state c = answer-past c.args.src.now c.args.probs.now (λ i. omega (arith, c.type_inv.src i)) c.args.zeros c.args.y2 c.args.above c.args.left c.args.s c.requires c.resume-d.result c.resume-d.ensures _ c.all_blocks-e.result c.all_blocks-e.ensures c.save-state.result c.save-state.ensures c.if-src-state.true

pub returns : goal.returns
unfolding blank
returns c = answer-done c.args.src.now c.args.probs.now (λ i. omega (arith, c.type_inv.src i)) c.args.zeros c.args.y2 c.args.above c.args.left c.args.s c.requires c.resume-d.result c.resume-d.ensures _ c.all_blocks-e.result c.all_blocks-e.ensures c.save-state.result c.save-state.ensures c.if-src-state.false
