-- Each promise of `plane_distance` admits one answer only. Assumes nothing.
use Rattle.lists.proofs.Answer.{OneAnswer, same}
use Rattle.plane_distance.proofs.Distance.none.Reads as none
use Rattle.plane_distance.proofs.Distance.none.Kinds as none-k
use Rattle.plane_distance.proofs.Distance.together.Reads as together
use Rattle.plane_distance.proofs.Distance.together.Kinds as together-k
use Rattle.plane_distance.proofs.plane_distance.Reads as plane-distance
use Rattle.plane_distance.proofs.plane_distance.Kinds as plane-distance-k

pub none-one : OneAnswer 0 none-k.ps none-k.r none.Post
none-one κs a x y s t = same

pub together-one : OneAnswer 0 together-k.ps together-k.r together.Post
together-one κs a x y s t = same

pub plane-distance-one : OneAnswer 2 plane-distance-k.ps plane-distance-k.r plane-distance.Post
plane-distance-one κs a x y s t = same
