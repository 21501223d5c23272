-- `planes::luma::residues_of` meets its contract. Assumes nothing.
use Rattle.planes.proofs.luma.residues_of.Goals as goal

pub returns : goal.returns
returns c = rw (c.inverse_dct_four.ensures, c.seeded_four.ensures)
