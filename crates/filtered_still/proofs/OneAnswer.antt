-- The promise of `still_filtered` admits one answer only, and leaves one thing only in each plane. Assumes nothing.
use mathlib.Core.List.{List}
use Prim.Native.Nat.{ℕ}
use Rattle.lists.proofs.Answer.{OneAnswerIn}
use Rattle.still.proofs.OneAnswer.{same-told}
use Rattle.filtered_still.proofs.still_filtered.Reads as still-filtered
use Rattle.filtered_still.proofs.still_filtered.Kinds as still-filtered-k

pub still-filtered-one : OneAnswerIn 8 still-filtered-k.ps still-filtered-k.r still-filtered.Post {A = List ℕ × (List ℕ × List ℕ)}
    (λ κs s. (s.1.1.1.1.1.1.1.1.1.0.now, (s.1.1.1.1.1.1.1.1.1.1.0.now, s.1.1.1.1.1.1.1.1.1.1.1.0.now)))
still-filtered-one κs a x y s t = same-told x y _ _ _ _ _ _
