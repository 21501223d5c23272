-- Each promise of `dct` admits one answer only. Assumes nothing.
use Rattle.lists.proofs.Answer.{OneAnswer, same}
use Rattle.dct.proofs.inverse_dct_4x4.Reads as one
use Rattle.dct.proofs.inverse_dct_4x4.Kinds as one-k
use Rattle.dct.proofs.inverse_dct_four.Reads as four
use Rattle.dct.proofs.inverse_dct_four.Kinds as four-k

pub inverse-dct-4x4-one : OneAnswer 0 one-k.ps one-k.r one.Post
inverse-dct-4x4-one κs a x y s t = same

pub inverse-dct-four-one : OneAnswer 0 four-k.ps four-k.r four.Post
inverse-dct-four-one κs a x y s t = same
