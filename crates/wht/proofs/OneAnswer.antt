-- Each promise of `wht` admits one answer only. Assumes nothing.
use Rattle.lists.proofs.Answer.{OneAnswer, same}
use Rattle.wht.proofs.inverse_wht_4x4.Reads as inverse-wht
use Rattle.wht.proofs.inverse_wht_4x4.Kinds as inverse-wht-k
use Rattle.wht.proofs.inverse_wht_4x4_dc_only.Reads as dc-only
use Rattle.wht.proofs.inverse_wht_4x4_dc_only.Kinds as dc-only-k

pub inverse-wht-4x4-one : OneAnswer 0 inverse-wht-k.ps inverse-wht-k.r inverse-wht.Post
inverse-wht-4x4-one κs a x y s t = same

pub inverse-wht-4x4-dc-only-one : OneAnswer 0 dc-only-k.ps dc-only-k.r dc-only.Post
inverse-wht-4x4-dc-only-one κs a x y s t = same
