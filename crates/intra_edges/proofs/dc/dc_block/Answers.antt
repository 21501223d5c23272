-- `intra_edges::dc::dc_block` meets its contract: the block is flat. Assumes nothing.
use mathlib.Core.Path.{sym, ◌∙◌}
use Rattle.lists.proofs.Table.{table_same}
use Rattle.rfc6386.proofs.Edges.{dc-flat}
use Rattle.intra_edges.proofs.dc.dc_block.Goals as goal

pub returns : goal.returns
returns g c = rw (c.requires.2, c.dc_pixel.ensures) (sym (table_same _ _) ∙ sym (dc-flat _ _ _ _ _))
