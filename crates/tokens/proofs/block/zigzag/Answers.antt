use Rattle.std.proofs.Common.{refl}
use Rattle.tokens.specs.Tokens.{zigzags}
use Rattle.tokens.proofs.Slots.{below-at}
use Rattle.tokens.proofs.block.zigzag.Goals as goal

pub returns : goal.returns
unfolding zigzags
returns c = (refl, below-at 16 zigzags (tt {0}) c.args.i c.requires)
