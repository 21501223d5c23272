use Rattle.std.proofs.Common.{arith}
use Rattle.bool_decoder.proofs.BoolDecoder.ready.Goals as goal

pub returns-else-self-gt32 : goal.returns-else-self-gt32
returns-else-self-gt32 c = record { holds = c.more.ensures.holds; held = λ h. omega (arith, c.more.ensures.held) }
