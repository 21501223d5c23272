-- `sub_blocks::walk::coded_block` meets its contract. Assumes nothing.
use Rattle.sub_blocks.specs.Steps.{prediction_at, coded_block}
use Rattle.sub_blocks.proofs.walk.coded_block.Goals as goal

pub returns : goal.returns
unfolding coded_block prediction_at
returns c = (
  rw (c.sum_block.ensures, c.predict.ensures, c.of-corner.ensures),
  rw (c.clipped.ensures, c.predict.ensures, c.of-corner.ensures),
)
