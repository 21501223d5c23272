-- Each promise of `sub_blocks` admits one answer only. Assumes nothing.
use Rattle.lists.proofs.Answer.{OneAnswer, same}
use Rattle.sub_blocks.proofs.walk.luma_parts.Reads as luma-parts
use Rattle.sub_blocks.proofs.walk.luma_parts.Kinds as luma-parts-k

pub luma-parts-one : OneAnswer 1 luma-parts-k.ps luma-parts-k.r luma-parts.Post
luma-parts-one κs a x y s t = same
