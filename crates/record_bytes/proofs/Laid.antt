-- A part of the bytes, as a slice gives it; and what the steps that lay a record's bytes down come to. Assumes nothing.
use Prim.Native.Nat.{ℕ, ◌+◌, ◌-◌, ◌≤◌}
use mathlib.Core.Path.{◌≡◌, refl, sym, ◌∙◌}
use mathlib.Core.List.{List}
use native.Mathlib.Nat.{le_of_eq, zero-add}
use native.Mathlib.Omega.{arith}
use lib.ListN.{length, take, drop, replicate, length-drop}
use lib.Seq.{get_or-drop, take_all}
use Rattle.lists.specs.Lists.{table, part}
use Rattle.lists.proofs.Table.{table-take, table-ext}
use Rattle.macroblock.specs.declared.neighbors.MbNeighbors.{MbNeighbors}
use Rattle.record_bytes.specs.Bytes.{luma_marks, chroma_marks, luma_bytes, chroma_bytes, bytes_of}
use Rattle.record_bytes.specs.Steps.{laid_at, luma_laid, chroma_laid}

pub taken-part : (n at : ℕ) (s : List ℕ) → at + n ≤ length s → take (at + n - at) (drop at s) ≡ part n s at
unfolding part
taken-part n at s h =
    let e : at + n - at ≡ n = omega arith in
    rw e (sym (table-take n (drop at s) 0 (simp length-drop (omega arith))) ∙ table-ext n _ _ (λ i k. get_or-drop at s i 0))

-- all of a list is its first n
pub whole_part : (n : ℕ) (s : List ℕ) → length s ≡ n → part n s 0 ≡ s
unfolding part
whole_part n s e = simp zero-add (table-take n s 0 (le_of_eq (sym e)) ∙ take_all n s (le_of_eq e))

pub laid-is : (n : MbNeighbors) → chroma_laid 7 64 n.v (chroma_laid 4 47 n.u (luma_laid n.y (replicate 81 0))) ≡ bytes_of n
unfolding table part luma_marks chroma_marks luma_bytes chroma_bytes bytes_of laid_at luma_laid chroma_laid
laid-is n = refl
