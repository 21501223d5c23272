-- `intra_edges::edge_or` meets its contract. Assumes nothing.
use Rattle.rfc6386.specs.Edges.{edge_or}
use Rattle.intra_edges.proofs.edge_or.Goals as goal

pub returns-then-there : goal.returns-then-there
unfolding edge_or
returns-then-there g c = rw c.if-there.true

pub returns-else-there : goal.returns-else-there
unfolding edge_or
returns-else-there g c = rw c.if-there.false
