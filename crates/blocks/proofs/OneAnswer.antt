-- Each promise of `blocks` admits one answer only. Assumes nothing.
use Rattle.lists.proofs.Answer.{OneAnswer, same}
use Rattle.blocks.proofs.first.Reads as first
use Rattle.blocks.proofs.first.Kinds as first-k
use Rattle.blocks.proofs.four.Reads as four
use Rattle.blocks.proofs.four.Kinds as four-k
use Rattle.blocks.proofs.residues.Reads as residues
use Rattle.blocks.proofs.residues.Kinds as residues-k

pub first_one : OneAnswer 1 first-k.ps first-k.r first.Post
first_one κs a x y s t = same

pub four-one : OneAnswer 1 four-k.ps four-k.r four.Post
four-one κs a x y s t = same

pub residues-one : OneAnswer 1 residues-k.ps residues-k.r residues.Post
residues-one κs a x y s t = same
