-- `still::right_from` meets its contract. Assumes nothing.
use Rattle.still.specs.Picture.{right_given, right_read, right_from}
use Rattle.still.proofs.Parts.{pixels-or}
use Rattle.still.proofs.right_from.Goals as goal

pub returns-in-Some : goal.returns-in-Some
unfolding right_from right_given
returns-in-Some c = rw c.in-Some.is c.right_of.ensures

pub returns-in-None : goal.returns-in-None
unfolding right_from right_read
returns-in-None c = rw (c.in-None.is, c.unwrap_or.ensures) (pixels-or _ c.right_pixels.ensures)
