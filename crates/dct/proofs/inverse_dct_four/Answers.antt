-- `dct::inverse_dct_four` meets its contract: the columns, then the rows. Assumes nothing.
use Rattle.dct.proofs.Blocks.{four-blocks}
use Rattle.dct.proofs.inverse_dct_four.Goals as goal

pub returns : goal.returns
returns c =
    four-blocks _ _ _ _ c.beside-s.ensures c.columns.ensures c.rows.ensures
