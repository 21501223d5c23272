-- Each promise of `residue` admits one answer only, and leaves one thing only in what was lent. Assumes nothing.
use mathlib.Core.Path.{refl}
use Rattle.lists.proofs.Answer.{OneAnswer, OneAnswerIn, same}
use Rattle.macroblock.specs.Reply.{reply_of}
use Rattle.macroblock.proofs.Refusals.{one_answer}
use Rattle.residue.specs.Answer.{told}
use Rattle.residue.proofs.sum.Reads as sum
use Rattle.residue.proofs.sum.Kinds as sum-k
use Rattle.residue.proofs.add_residue_4x4.Reads as add-residue-4x4
use Rattle.residue.proofs.add_residue_4x4.Kinds as add-residue-4x4-k
use Rattle.residue.proofs.add_residue.Reads as add-residue
use Rattle.residue.proofs.add_residue.Kinds as add-residue-k
use Rattle.residue.proofs.plane.inverse_dct_4x4_add_into.Reads as add-into
use Rattle.residue.proofs.plane.inverse_dct_4x4_add_into.Kinds as add-into-k

pub sum_one : OneAnswer 0 sum-k.ps sum-k.r sum.Post
sum_one κs a x y s t = same

pub add-residue-4x4-one : OneAnswer 0 add-residue-4x4-k.ps add-residue-4x4-k.r add-residue-4x4.Post
add-residue-4x4-one κs a x y s t = same

pub add-residue-one : OneAnswerIn 3 add-residue-k.ps add-residue-k.r add-residue.Post (λ κs s. s.1.1.0.now)
add-residue-one κs a x y s t p q = (one_answer reply_of (λ n. n) (λ n. record {}) (λ n. refl) (λ n. refl) (λ e. refl) x y (same p.0 q.0), same p.1 q.1)

pub inverse-dct-4x4-add-into-one : OneAnswerIn 1 add-into-k.ps add-into-k.r add-into.Post (λ κs s. s.1.0.now)
inverse-dct-4x4-add-into-one κs a x y s t p q =
    (one_answer told (λ w. w.reply) (λ w. w.clipped) (λ n. refl) (λ n. refl) (λ e. refl) x y (same p.0 q.0), same p.1 q.1)
