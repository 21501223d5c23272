-- Each promise of `clipping` admits one answer only. Assumes nothing.
use Rattle.lists.proofs.Answer.{OneAnswer, same}
use Rattle.clipping.proofs.over.Reads as over
use Rattle.clipping.proofs.over.Kinds as over-k
use Rattle.clipping.proofs.block_clipped.Reads as block-clipped
use Rattle.clipping.proofs.block_clipped.Kinds as block-clipped-k

pub over-one : OneAnswer 0 over-k.ps over-k.r over.Post
over-one κs a x y s t = same

pub block-clipped-one : OneAnswer 0 block-clipped-k.ps block-clipped-k.r block-clipped.Post
block-clipped-one κs a x y s t = same
