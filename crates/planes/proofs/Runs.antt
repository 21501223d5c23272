-- A part of n pixels, each with its residue added, put back in its place is the run added. Assumes nothing.
use Prim.Native.Nat.{ℕ, ◌+◌, ◌≤◌}
use mathlib.Core.Path.{◌≡◌, sym, ap, ◌∙◌}
use mathlib.Core.List.{List, ◌++◌}
use native.Mathlib.Omega.{arith}
use lib.IntN.{ℤ, pos}
use lib.ListN.{length, get_or, set, take, drop, length-drop, take-append-drop}
use lib.Seq.{length-take-le, get_or-take, get_or-append-add}
use Rattle.lists.proofs.Each.{each, each-front}
use Rattle.lists.proofs.Parts.{set_after}
use Rattle.lists.proofs.Table.{table-ext}
use Rattle.lists.proofs.Turns.{turns-after}
use Rattle.rfc6386.specs.Residue.{sum}
use Rattle.planes.specs.Steps.{all_added, run_added}

module _ (o : List ℤ) (start : ℕ) where
  -- pixel k with its residue
  with_residue : ℕ → ℕ → ℕ
  with_residue k x = sum x (get_or o (start + k) (pos 0))

  turn-after : (at : ℕ) (p : List ℕ) (k : ℕ) (m : List ℕ) → length p ≡ at
      → set (p ++ m) (at + k) (sum (get_or (p ++ m) (at + k) 0) (get_or o (start + k) (pos 0))) ≡ p ++ each 0 with_residue m k m
  unfolding with_residue
  turn-after at p k m e = rw (← e, get_or-append-add, set_after)

  pub run-back : (at n : ℕ) (px : List ℕ) → at + n ≤ length px
      → take at px ++ (all_added o start (take n (drop at px)) ++ drop n (drop at px)) ≡ run_added o at start n px
  unfolding run_added with_residue
  run-back at n px h =
      let m = drop at px in
      let l : n ≤ length m = rw length-drop (omega (arith, h)) in
      sym (
      ap (λ (xs : List ℕ). run_added o at start n xs) (sym (take-append-drop at px))
      ∙ turns-after n _ (each 0 with_residue m) (take at px) m (λ k xs. turn-after at (take at px) k xs (length-take-le at px (omega (arith, h))))
      ∙ ap (λ (xs : List ℕ). take at px ++ xs) (each-front 0 with_residue m n l)
      ∙ ap (λ (xs : List ℕ). take at px ++ (xs ++ drop n m))
      (rw (length-take-le n m l) (table-ext n _ _ (λ k q. ap (with_residue k) (sym (get_or-take n m k 0 q)))))
      )
