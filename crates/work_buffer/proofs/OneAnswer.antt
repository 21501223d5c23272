-- Each promise of `work_buffer` admits one answer only. Assumes nothing.
use Rattle.lists.proofs.Answer.{OneAnswer, same}
use Rattle.work_buffer.proofs.border.start.Reads as start
use Rattle.work_buffer.proofs.border.start.Kinds as start-k
use Rattle.work_buffer.proofs.luma.luma_of.Reads as luma-of
use Rattle.work_buffer.proofs.luma.luma_of.Kinds as luma-of-k

pub start-one : OneAnswer 0 start-k.ps start-k.r start.Post
start-one κs a x y s t = same

pub luma-of-one : OneAnswer 1 luma-of-k.ps luma-of-k.r luma-of.Post
luma-of-one κs a x y s t = same
