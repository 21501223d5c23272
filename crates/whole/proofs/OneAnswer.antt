-- Each promise of `whole` admits one answer only. Assumes nothing.
use Rattle.lists.proofs.Answer.{OneAnswer, same}
use Rattle.whole.proofs.wrap.Reads as wrap
use Rattle.whole.proofs.wrap.Kinds as wrap-k
use Rattle.whole.proofs.narrow.Reads as narrow
use Rattle.whole.proofs.narrow.Kinds as narrow-k
use Rattle.whole.proofs.widen.Reads as widen
use Rattle.whole.proofs.widen.Kinds as widen-k
use Rattle.whole.proofs.eighth.Reads as eighth
use Rattle.whole.proofs.eighth.Kinds as eighth-k
use Rattle.whole.proofs.high_half.Reads as high_half_lem
use Rattle.whole.proofs.high_half.Kinds as high-half-k
use Rattle.whole.proofs.wrapping_mul.Reads as wrapping-mul
use Rattle.whole.proofs.wrapping_mul.Kinds as wrapping-mul-k
use Rattle.whole.proofs.wrapping_add.Reads as wrapping_add
use Rattle.whole.proofs.wrapping_add.Kinds as wrapping-add-k
use Rattle.whole.proofs.wrapping_sub.Reads as wrapping-sub
use Rattle.whole.proofs.wrapping_sub.Kinds as wrapping-sub-k
use Rattle.whole.proofs.within_byte.Reads as within-byte
use Rattle.whole.proofs.within_byte.Kinds as within-byte-k
use Rattle.whole.proofs.clamp255.Reads as clamp255
use Rattle.whole.proofs.clamp255.Kinds as clamp255-k

pub wrap-one : OneAnswer 0 wrap-k.ps wrap-k.r wrap.Post
wrap-one κs a x y s t = same

pub narrow_one : OneAnswer 0 narrow-k.ps narrow-k.r narrow.Post
narrow_one κs a x y s t = same

pub widen-one : OneAnswer 0 widen-k.ps widen-k.r widen.Post
widen-one κs a x y s t = same

pub eighth-one : OneAnswer 0 eighth-k.ps eighth-k.r eighth.Post
eighth-one κs a x y s t = same

pub high-half-one : OneAnswer 0 high-half-k.ps high-half-k.r high_half_lem.Post
high-half-one κs a x y s t = same

pub wrapping-mul-one : OneAnswer 0 wrapping-mul-k.ps wrapping-mul-k.r wrapping-mul.Post
wrapping-mul-one κs a x y s t = same

pub wrapping-add-one : OneAnswer 0 wrapping-add-k.ps wrapping-add-k.r wrapping_add.Post
wrapping-add-one κs a x y s t = same

pub wrapping-sub-one : OneAnswer 0 wrapping-sub-k.ps wrapping-sub-k.r wrapping-sub.Post
wrapping-sub-one κs a x y s t = same

pub within-byte-one : OneAnswer 0 within-byte-k.ps within-byte-k.r within-byte.Post
within-byte-one κs a x y s t = same

pub clamp255-one : OneAnswer 0 clamp255-k.ps clamp255-k.r clamp255.Post
clamp255-one κs a x y s t = same
