-- Each promise of `intra_subblock` admits one answer only, and leaves one thing only in what was lent. Assumes nothing.
use mathlib.Core.Path.{refl}
use Rattle.lists.proofs.Answer.{OneAnswer, OneAnswerIn, same}
use Rattle.intra_subblock.proofs.predict_b4x4.Reads as b4x4
use Rattle.intra_subblock.proofs.predict_b4x4.Kinds as b4x4-k
use Rattle.intra_subblock.proofs.predict_b4x4_into.Reads as b4x4-into
use Rattle.intra_subblock.proofs.predict_b4x4_into.Kinds as b4x4-into-k

pub b4x4-one : OneAnswer 0 b4x4-k.ps b4x4-k.r b4x4.Post
b4x4-one κs a x y s t = same

pub b4x4-into-one : OneAnswerIn 1 b4x4-into-k.ps b4x4-into-k.r b4x4-into.Post (λ κs s. s.0.now)
b4x4-into-one κs a x y s t p q = (refl, same p q)
