-- `sub_blocks::walk::skipped_block` meets its contract. Assumes nothing.
use Rattle.sub_blocks.specs.Steps.{prediction_at, skipped_block}
use Rattle.sub_blocks.proofs.walk.skipped_block.Goals as goal

pub returns : goal.returns
unfolding skipped_block prediction_at
returns c = rw (c.put_block.ensures, c.predict.ensures, c.of-corner.ensures)
