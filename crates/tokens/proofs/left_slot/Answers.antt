use Rattle.std.proofs.Common.{refl}
use Rattle.tokens.specs.Tokens.{left_slots}
use Rattle.tokens.proofs.Slots.{below-at}
use Rattle.tokens.proofs.left_slot.Goals as goal

pub returns : goal.returns
unfolding left_slots
returns c = (refl, below-at 9 left_slots (tt {0}) c.args.n c.requires)
