-- `gathering::record::beside` meets its contract: the record of what its calls give. Assumes nothing.
use Rattle.rfc6386.specs.Picture.{neighbors_of}
use Rattle.gathering.proofs.record.beside.Goals as goal

pub returns : goal.returns
unfolding neighbors_of
returns c = cc
