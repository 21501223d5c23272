-- Each promise of `shelf` admits one answer only, and leaves one thing only in what was lent. Assumes nothing.
use mathlib.Core.List.{List}
use mathlib.Core.Path.{◌≡◌}
use Prim.Native.Nat.{ℕ}
use seplogic.Ra.Ura.{Ura}
use base.Logic.{SProp, ent, sep, fst∗, snd∗}
use borrow.Fn.World.{ArgsD}
use contract.Lifetimes.{Lfts}
use contract.Monad.{Fun, fact, fact_i, fact_use}
use denote.Triple.Clauses.{AtExit}
use types.Logic.{Logic}
use prog.Memory.{Memory}
use prog.Routine.{Routine}
use Rattle.std.specs.Prelude.{Result}
use Rattle.lists.proofs.Answer.{OneAnswerIn}
use Rattle.lists.proofs.Pairs.{same-pair}
use Rattle.macroblock.specs.declared.reply.Refusal.{Refusal}
use Rattle.shelf_items.proofs.OneAnswer.{once}
use Rattle.shelf.specs.contracts.shelf as shelf
use Rattle.shelf.proofs.shelf_few.Reads as few
use Rattle.shelf.proofs.shelf_few.Kinds as few-k

-- `shelf`'s clause is read in any model of the logic, as it was generated: what the clause says of two answers to one call, put side by side, is that they
-- are the same
module _ {M : Type 1} {𝓤 : Ura M} (𝓛 : Logic 𝓤) (mem : Memory → SProp 𝓤) (run : Routine → Fun 𝓤) (κs : Lfts 6)
    (a : ArgsD shelf.signature κs) where
  abbrev said : Result (Unit {0}) Refusal → AtExit shelf.ended κs → SProp 𝓤
  said r s = (shelf.clauses 𝓛 mem run κs a).ensures tt r s

  abbrev left : AtExit shelf.ended κs → List ℕ × (List ℕ × List ℕ)
  left s = (s.1.1.1.0.now, (s.1.1.1.1.0.now, s.1.1.1.1.1.0.now))

  pub shelf-one : (x y : Result (Unit {0}) Refusal) (s t : AtExit shelf.ended κs) → ent 𝓤 (sep 𝓤 (said x s) (said y t)) (fact 𝓤 ((x ≡ y) × (left s ≡ left t)))
  shelf-one x y s t =
      fact_use 𝓤 _ (fst∗ 𝓤 (said x s) (said y t))
      λ p. fact_use 𝓤 _ (snd∗ 𝓤 (said x s) (said y t)) λ q. fact_i 𝓤 _ _ (let e = same-pair p q in (once x y e.0, e.1))

pub shelf-few-one : OneAnswerIn 5 few-k.ps few-k.r few.Post {A = List ℕ × (List ℕ × List ℕ)}
    (λ κs s. (s.1.1.1.1.0.now, (s.1.1.1.1.1.0.now, s.1.1.1.1.1.1.0.now)))
shelf-few-one κs a x y s t p q =
    let e = same-pair p q in
    (once x y e.0, e.1)
