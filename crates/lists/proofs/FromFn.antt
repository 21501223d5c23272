-- An array that a closure made, index after index, is a table of what the closure gives.
--     from-fn-table    `from-fn-table g P m rule step ys f d`: P is what is known of the closure's state, and holds after each call too
--     made-table       `made-table g f rule call ys n`: of a closure that a call leaves as it was
-- Assumes nothing.
use mathlib.Core.Path.{◌≡◌, refl, sym, ap, ◌∙◌}
use mathlib.Core.Logic.{⊎_elim}
use mathlib.Core.List.{List}
use Prim.Native.Nat.{ℕ, zero, suc, ◌+◌, ◌<◌, ◌≤◌}
use native.Mathlib.Nat.{eq-or-lt_of_le}
use native.Mathlib.Omega.{arith}
use lib.ListN.{get_or}
use lib.Seq.{take_all}
use denote.Param.Members.{Mut, Called}
use Rattle.std.specs.Array.{IsFromFnResult, IsFromFnResultFrom}
use Rattle.lists.specs.Lists.{table}
use Rattle.lists.proofs.Table.{table-ext, table-take}

module _ {F B : Type 0} (g : Mut F (ℕ × Unit {0}) B) (P : F → Type 0) (m : ℕ) (rule : ℕ → B)
    (step : (p q : F) (i : ℕ) (y : B) → P p → i < m → Called g p (i, tt) y q → (y ≡ rule i) × P q) (ys : List B) where
  places : (n i : ℕ) (f : F) → i + n ≤ m → P f → IsFromFnResultFrom g f ys i n → (k : ℕ) (d : B) → i ≤ k → k < i + n → get_or ys k d ≡ rule k
  places zero i f h p w k d a b = absurd (omega arith)
  places (suc n) i f h p w k d a b =
      let s = step f w.0 i w.1 p (omega arith) w.3 in
      ⊎_elim (λ (e : i ≡ k). ap (λ (j : ℕ). get_or ys j d) (sym e) ∙ w.2.1 d ∙ s.0 ∙ ap rule e)
      (λ (l : i < k). places n (i + 1) w.0 (omega arith) s.1 w.4 k d (omega arith) (omega arith))
      (eq-or-lt_of_le a)

  pub from-fn-table : (f : F) (d : B) → P f → IsFromFnResult g f ys m → ys ≡ table m rule
  from-fn-table f d p w =
      sym (take_all m ys (omega (arith, w.long))) ∙ sym (table-take m ys d (omega (arith, w.long)))
      ∙ table-ext m (λ i. get_or ys i d) rule (λ i l. places m 0 f (omega arith) p w.each i d (omega arith) (omega arith))

-- a call leaves the closure as it is, and answers the rule's value
module _ {F : Type 0} (g : Mut F (ℕ × Unit {0}) ℕ) (f : F) (rule : ℕ → ℕ)
    (call : (i y : ℕ) (q : F) → Called g f (i, tt) y q → (q ≡ f) × (y ≡ rule i)) where
  pub made-table : (ys : List ℕ) (n : ℕ) → IsFromFnResult g f ys n → ys ≡ table n rule
  made-table ys n w = from-fn-table g (λ p. p ≡ f) n rule (λ p q i y e l k. let s = call i y q (rw e at k) in (s.1, s.0)) ys f 0 refl w
