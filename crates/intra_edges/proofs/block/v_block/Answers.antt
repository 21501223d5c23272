-- `intra_edges::block::v_block` meets its contract. Assumes nothing.
use mathlib.Core.Path.{◌≡◌, refl, ◌∙◌}
use lib.ListN.{length}
use borrow.Author.Rules.{rules}
use Rattle.rfc6386.specs.Edges.{above_or, v_block}
use Rattle.intra_edges.proofs.block.v_block.Goals as goal

pub returns : goal.returns
unfolding v_block above_or
returns g c =
    let k : length c.edge_or-edge.result ≡ g.row.N = search rules in
    c.down.ensures ∙ rw (k, c.edge_or-edge.ensures) refl
