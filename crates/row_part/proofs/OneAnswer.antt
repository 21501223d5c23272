-- The promise of `row_part` admits one answer only: of the part that it hands back that is its bytes and where they lie in memory, all that
-- a caller can tell of a reference.
-- Assumes nothing.
use Prim.Native.Nat.{ℕ}
use mathlib.Core.List.{List}
use Rattle.lists.proofs.Answer.{OneAnswerOf, same}
use Rattle.row_part.proofs.row_part.Reads as row-part
use Rattle.row_part.proofs.row_part.Kinds as row-part-k

pub row-part-one : OneAnswerOf 1 row-part-k.ps row-part-k.r row-part.Post {A = (ℕ × ℕ) × List ℕ} (λ κs x. (x.ref_ptr, x.now))
row-part-one κs a x y s t p q = let e = same p.0 q.0 in let f = same p.1 q.1 in rw (e, f)
