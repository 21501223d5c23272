-- Each promise of `planes` admits one answer only. Assumes nothing.
use Rattle.lists.proofs.Answer.{OneAnswer, same}
use Rattle.planes.proofs.luma.y_whole.Reads as y-whole
use Rattle.planes.proofs.luma.y_whole.Kinds as y-whole-k
use Rattle.planes.proofs.chroma.uv_plane.Reads as uv-plane
use Rattle.planes.proofs.chroma.uv_plane.Kinds as uv-plane-k

pub y-whole-one : OneAnswer 1 y-whole-k.ps y-whole-k.r y-whole.Post
y-whole-one κs a x y s t = same

pub uv-plane-one : OneAnswer 1 uv-plane-k.ps uv-plane-k.r uv-plane.Post
uv-plane-one κs a x y s t = same
