-- Each promise of `picture_limits` admits one answer only. Assumes nothing.
use Rattle.lists.proofs.Answer.{OneAnswer, same}
use Rattle.picture_limits.proofs.place_ok.Reads as Place-ok
use Rattle.picture_limits.proofs.place_ok.Kinds as place-ok-k
use Rattle.picture_limits.proofs.size_ok.Reads as Size-ok
use Rattle.picture_limits.proofs.size_ok.Kinds as size-ok-k
use Rattle.picture_limits.proofs.luma_ok.Reads as luma-ok
use Rattle.picture_limits.proofs.luma_ok.Kinds as luma-ok-k
use Rattle.picture_limits.proofs.sizes_ok.Reads as sizes-ok
use Rattle.picture_limits.proofs.sizes_ok.Kinds as sizes-ok-k

pub place-ok-one : OneAnswer 0 place-ok-k.ps place-ok-k.r Place-ok.Post
place-ok-one κs a x y s t = same

pub size-ok-one : OneAnswer 0 size-ok-k.ps size-ok-k.r Size-ok.Post
size-ok-one κs a x y s t = same

pub luma-ok-one : OneAnswer 0 luma-ok-k.ps luma-ok-k.r luma-ok.Post
luma-ok-one κs a x y s t = same

pub sizes-ok-one : OneAnswer 0 sizes-ok-k.ps sizes-ok-k.r sizes-ok.Post
sizes-ok-one κs a x y s t = same
