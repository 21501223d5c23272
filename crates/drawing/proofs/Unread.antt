-- A macroblock from its bytes: what changes no answer, and what is not counted.
--     drawn-absent, bytes-absent     the bytes of an absent part of a row or of an absent column
--     drawn-unmarked                 sub-block bytes that are not marked as there
--     drawn-refused-counts-nothing, drawn-skipped-counts-nothing
-- Assumes nothing.
use Prim.Native.Nat.{ℕ}
use mathlib.Core.Path.{◌≡◌, refl}
use mathlib.Core.Bool.{Bool, true, false}
use mathlib.Core.List.{List}
use borrow.Author.Tests.{eq-eqb}
use lib.Dec.{eqb}
use lib.IntN.{ℤ}
use lib.ListN.{length, drop}
use Rattle.lists.specs.Lists.{pick}
use Rattle.macroblock.specs.Reply.{wrong_length, unknown_byte}
use Rattle.macroblock.specs.declared.modes.MbModes.{MbModes}
use Rattle.macroblock.specs.declared.neighbors.MbNeighbors.{MbNeighbors}
use Rattle.rfc6386.specs.Edges.{is_b}
use Rattle.rfc6386.proofs.Absent.{SameEdges}
use Rattle.record_bytes.specs.Bytes.{marks_known, record_of}
use Rattle.reconstruct.specs.Answers.{MbAnswer, refusal, non_b, walk_b}
use Rattle.reconstruct.proofs.Unread.{non_b-absent, walk_b-absent}
use Rattle.reconstruct.proofs.Uncounted.{
  Zero,
  Quiet,
  zero-pick,
  quiet-pick,
  refusal-zero,
  non_b-refused-counts-nothing,
  non_b-skipped-counts-nothing,
  walk_b-refused-counts-nothing,
  walk_b-skipped-counts-nothing,
}
use Rattle.drawing.specs.Drawn.{modes_known, modes_of, sub_modes_of, subs_known, drawn_b, drawn_in, drawn_with, drawn, drawn_bytes}

-- ---- the bytes of an absent part
module _ {m n : MbNeighbors} (e : SameEdges m n) (subs : List ℕ) (there : Bool) (c : List ℤ) where
  in-absent : (modes : MbModes) → drawn_in modes subs there m c ≡ drawn_in modes subs there n c
  unfolding drawn_in drawn_b
  in-absent modes = rw (walk_b-absent e modes (drop 16 c) (sub_modes_of subs) there, non_b-absent e modes c)

  pub with-absent : (modes : MbModes) → drawn_with modes subs there m c ≡ drawn_with modes subs there n c
  unfolding drawn_with
  with-absent modes = rw (in-absent modes)

  pub drawn-absent : (luma chroma skip : ℕ) → drawn luma chroma skip subs there m c ≡ drawn luma chroma skip subs there n c
  unfolding drawn
  drawn-absent luma chroma skip = rw (in-absent (modes_of luma chroma skip))

-- two records of 81 bytes that stand for records with the same parts
pub bytes-absent : (s t : List ℕ) → marks_known s ≡ marks_known t → SameEdges (record_of s) (record_of t) → (luma chroma skip : ℕ) (subs : List ℕ) (there : Bool) (c : List ℤ)
    → drawn_bytes luma chroma skip subs there s c ≡ drawn_bytes luma chroma skip subs there t c
unfolding drawn_bytes
bytes-absent s t k e luma chroma skip subs there c = rw (k, drawn-absent e subs there c luma chroma skip)

-- ---- sub-block bytes that are not there
pub drawn-unmarked : (luma chroma skip : ℕ) (subs others : List ℕ) (n : MbNeighbors) (c : List ℤ)
    → drawn luma chroma skip subs false n c ≡ drawn luma chroma skip others false n c
unfolding drawn drawn_in drawn_b walk_b
drawn-unmarked luma chroma skip subs others n c = refl

-- ---- the count
module _ (modes : MbModes) (subs : List ℕ) (there : Bool) (n : MbNeighbors) (c : List ℤ) where
  abbrev in_b : MbAnswer
  in_b = pick (subs_known subs there) (walk_b (sub_modes_of subs) there modes n (drop 16 c)) (refusal unknown_byte)

  in-quiet : Quiet (drawn_in modes subs there n c)
  unfolding drawn_in drawn_b
  in-quiet =
      quiet-pick (is_b modes.y) in_b (non_b modes n c)
      (quiet-pick (subs_known subs there) (walk_b (sub_modes_of subs) there modes n (drop 16 c)) (refusal unknown_byte)
      (walk_b-refused-counts-nothing modes n (drop 16 c) (sub_modes_of subs) there) (λ k. refusal-zero unknown_byte))
      (non_b-refused-counts-nothing modes n c)

  in-zero : modes.skip ≡ true → Zero (drawn_in modes subs there n c)
  unfolding drawn_in drawn_b
  in-zero e =
      zero-pick (is_b modes.y) in_b (non_b modes n c)
      (zero-pick (subs_known subs there) (walk_b (sub_modes_of subs) there modes n (drop 16 c)) (refusal unknown_byte)
      (walk_b-skipped-counts-nothing modes n (drop 16 c) (sub_modes_of subs) there e) (refusal-zero unknown_byte))
      (non_b-skipped-counts-nothing modes n c e)

module _ (luma chroma skip : ℕ) (subs : List ℕ) (there : Bool) (n : MbNeighbors) (c : List ℤ) where
  abbrev made : MbAnswer
  made = drawn_in (modes_of luma chroma skip) subs there n c

  abbrev known : MbAnswer
  known = pick (modes_known luma chroma skip) made (refusal unknown_byte)

  pub drawn-refused-counts-nothing : Quiet (drawn luma chroma skip subs there n c)
  unfolding drawn
  drawn-refused-counts-nothing =
      quiet-pick (eqb (length c) 400) known (refusal wrong_length)
      (quiet-pick (modes_known luma chroma skip) made (refusal unknown_byte) (in-quiet (modes_of luma chroma skip) subs there n c) (λ k. refusal-zero unknown_byte))
      (λ k. refusal-zero wrong_length)

  skips : skip ≡ 1 → (modes_of luma chroma skip).skip ≡ true
  unfolding modes_of
  skips e = eq-eqb skip 1 e

  pub drawn-skipped-counts-nothing : skip ≡ 1 → Zero (drawn luma chroma skip subs there n c)
  unfolding drawn
  drawn-skipped-counts-nothing e =
      zero-pick (eqb (length c) 400) known (refusal wrong_length)
      (zero-pick (modes_known luma chroma skip) made (refusal unknown_byte) (in-zero (modes_of luma chroma skip) subs there n c (skips e)) (refusal-zero unknown_byte))
      (refusal-zero wrong_length)
