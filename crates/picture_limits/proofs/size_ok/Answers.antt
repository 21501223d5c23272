-- `picture_limits::size_ok` meets its contract. Assumes nothing.
use Rattle.rfc6386.specs.Picture.{size_ok}
use Rattle.picture_limits.proofs.size_ok.Goals as goal

pub returns : goal.returns
unfolding size_ok
returns c = c.place_ok.ensures
