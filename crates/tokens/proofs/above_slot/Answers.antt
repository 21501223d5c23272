use Rattle.std.proofs.Common.{refl}
use Rattle.tokens.specs.Tokens.{above_slots}
use Rattle.tokens.proofs.Slots.{below-at}
use Rattle.tokens.proofs.above_slot.Goals as goal

pub returns : goal.returns
unfolding above_slots
returns c = (refl, below-at 9 above_slots (tt {0}) c.args.n c.requires)
