-- `gathering::record::luma_edges` meets its contract. Assumes nothing.
use Rattle.rfc6386.specs.Picture.{luma_beside}
use Rattle.gathering.proofs.record.luma_edges.Goals as goal

pub returns : goal.returns
unfolding luma_beside
returns c = cc
