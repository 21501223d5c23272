-- `residue::add_residue_4x4` meets its contract. Assumes nothing.
use Rattle.residue.proofs.Answers.{block-given}
use Rattle.residue.proofs.add_residue_4x4.Goals as goal

pub returns : goal.returns
returns c = let a = c.args in block-given a.prediction a.residue c.block_pixels.ensures c.block_clipped-clipped.ensures
