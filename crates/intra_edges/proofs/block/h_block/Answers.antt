-- `intra_edges::block::h_block` meets its contract. Assumes nothing.
use mathlib.Core.Path.{◌≡◌, refl, ◌∙◌}
use lib.ListN.{length}
use borrow.Author.Rules.{rules}
use Rattle.rfc6386.specs.Edges.{left_or, h_block}
use Rattle.intra_edges.proofs.block.h_block.Goals as goal

pub returns : goal.returns
unfolding h_block left_or
returns g c =
    let k : length c.edge_or-edge.result ≡ g.row.N = search rules in
    c.across.ensures ∙ rw (k, c.edge_or-edge.ensures) refl
