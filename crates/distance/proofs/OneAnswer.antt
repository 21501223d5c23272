-- The promise of `distance` admits one answer only, and leaves one thing only in the reports and in the totals. Assumes nothing.
use mathlib.Core.List.{List}
use mathlib.Core.Path.{refl, sym, ap, ◌∙◌}
use Prim.Native.Nat.{ℕ}
use Rattle.lists.proofs.Answer.{OneAnswerIn}
use Rattle.macroblock.specs.Reply.{reply_of}
use Rattle.macroblock.proofs.Refusals.{one_answer}
use Rattle.distance.proofs.distance.Reads as distance
use Rattle.distance.proofs.distance.Kinds as distance-k

pub distance-one : OneAnswerIn 5 distance-k.ps distance-k.r distance.Post {A = List ℕ × List ℕ} (λ κs s. (s.1.1.1.0.now, s.1.1.1.1.0.now))
distance-one κs a x y s t p q =
    let e = p ∙ sym q in (
      one_answer reply_of (λ r. r) (λ r. tt) (λ a. refl) (λ a. refl) (λ e. refl) x y (ap (λ (w : ℕ × (List ℕ × List ℕ)). w.0) e),
      ap (λ (w : ℕ × (List ℕ × List ℕ)). w.1) e,
    )
