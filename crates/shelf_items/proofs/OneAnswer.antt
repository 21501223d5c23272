-- Each promise of `shelf_items` admits one answer only, and leaves one thing only in what was lent. Assumes nothing.
use mathlib.Core.List.{List}
use mathlib.Core.Path.{◌≡◌, refl}
use Prim.Native.Nat.{ℕ}
use Rattle.std.specs.Prelude.{Result}
use Rattle.lists.proofs.Answer.{OneAnswerIn, same}
use Rattle.lists.proofs.Pairs.{pair, same-pair}
use Rattle.macroblock.specs.Reply.{reply_of}
use Rattle.macroblock.specs.declared.reply.Refusal.{Refusal}
use Rattle.macroblock.proofs.Refusals.{one_answer}
use Rattle.shelf_items.specs.Steps.{Plan, told}
use Rattle.shelf_items.proofs.begin.Reads as begin
use Rattle.shelf_items.proofs.begin.Kinds as begin-k
use Rattle.shelf_items.proofs.put_job.Reads as put-job
use Rattle.shelf_items.proofs.put_job.Kinds as put-job-k
use Rattle.shelf_items.proofs.shelf_bytes.Reads as bytes
use Rattle.shelf_items.proofs.shelf_bytes.Kinds as bytes-k

-- a call that answers nothing but whether it was refused is told by its reply
pub once : (x y : Result (Unit {0}) Refusal) → reply_of x ≡ reply_of y → x ≡ y
once = one_answer reply_of (λ (n : ℕ). n) (λ (n : ℕ). tt) (λ u. refl) (λ u. refl) (λ e. refl)

pub begin-one : OneAnswerIn 1 begin-k.ps begin-k.r begin.Post (λ κs s. s.1.1.1.1.1.0.now)
begin-one κs a x y s t p q =
    (one_answer (told a.0) (λ (w : Plan). w.reply) (λ (w : Plan). tt) (λ u. refl) (λ u. refl) (λ e. refl) x y (same p.0 q.0), same p.1 q.1)

pub put-job-one : OneAnswerIn 5 put-job-k.ps put-job-k.r put-job.Post {A = List ℕ × (List ℕ × List ℕ)}
    (λ κs s. (s.1.1.1.0.now, (s.1.1.1.1.0.now, s.1.1.1.1.1.0.now)))
put-job-one κs a x y s t p q = (refl, pair (same p.0 q.0) (pair (same p.1 q.1) (same p.2 q.2)))

pub shelf-bytes-one : OneAnswerIn 7 bytes-k.ps bytes-k.r bytes.Post {A = List ℕ × (List ℕ × List ℕ)}
    (λ κs s. (s.1.1.1.1.0.now, (s.1.1.1.1.1.0.now, s.1.1.1.1.1.1.0.now)))
shelf-bytes-one κs a x y s t p q =
    let e = same-pair p q in
    (once x y e.0, e.1)
