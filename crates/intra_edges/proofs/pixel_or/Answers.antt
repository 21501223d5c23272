-- `intra_edges::pixel_or` meets its contract. Assumes nothing.
use Rattle.rfc6386.specs.Edges.{pixel_or}
use Rattle.intra_edges.proofs.pixel_or.Goals as goal

pub returns-then-there : goal.returns-then-there
unfolding pixel_or
returns-then-there c = rw c.if-there.true

pub returns-else-there : goal.returns-else-there
unfolding pixel_or
returns-else-there c = rw c.if-there.false
