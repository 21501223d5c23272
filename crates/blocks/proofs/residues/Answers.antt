-- `blocks::residues` meets its contract. Assumes nothing.
use Rattle.blocks.specs.Taken.{residues_from}
use Rattle.blocks.proofs.residues.Goals as goal

pub returns : goal.returns
unfolding residues_from
returns c = rw (c.inverse_dct_four.ensures, c.four.ensures)
