-- Which reply an item has, and what it writes beside it: of a job 8 in luma mode B with a sub-block byte that says nothing, and 384 zeros; else 0. Sub-block
-- bytes are looked at in luma mode B alone. Assumes nothing.
use Prim.Native.Nat.{ℕ}
use mathlib.Core.Path.{◌≡◌, refl, ◌∙◌}
use mathlib.Core.Bool.{Bool, true, false}
use mathlib.Core.List.{List}
use native.Mathlib.Omega.{arith}
use borrow.Author.Tests.{eq-eqb}
use lib.IntN.{ℤ}
use lib.ListN.{length, drop, replicate, length-drop}
use Rattle.lists.specs.Lists.{pick, item_of, within}
use Rattle.macroblock.specs.Reply.{done, unknown_byte}
use Rattle.macroblock.specs.declared.modes.MbModes.{MbModes}
use Rattle.macroblock.specs.declared.neighbors.MbNeighbors.{MbNeighbors}
use Rattle.rfc6386.specs.Edges.{is_b}
use Rattle.reconstruct.specs.Answers.{refusal, whole_of, parts_of, non_b, walk_b}
use Rattle.drawing.specs.Drawn.{planes_of, sub_modes_of, drawn_b, drawn_in, drawn_with}
use Rattle.shelf_items.specs.declared.Job.{Job}
use Rattle.shelf_items.specs.Shelf.{job_drawn}

-- what a refused item writes
pub refused-zeros : (number : ℕ) → planes_of (refusal number) ≡ replicate 384 0
unfolding planes_of refusal
refused-zeros number = refl

-- ---- the reply
module _ (m : MbModes) (s : List ℕ) (n : MbNeighbors) (c : List ℤ) (full : length c ≡ 400) where
  whole-reply : is_b m.y ≡ false → (non_b m n c).reply ≡ done
  unfolding non_b whole_of
  whole-reply e = rw (e, eq-eqb (length c) 400 full) refl

  parts-by : (b : Bool) → (pick b (walk_b (sub_modes_of s) true m n (drop 16 c)) (refusal unknown_byte)).reply ≡ pick b done unknown_byte
  unfolding walk_b parts_of refusal
  parts-by true = let e : length (drop 16 c) ≡ 384 = length-drop 16 c ∙ omega (arith, full) in rw (eq-eqb (length (drop 16 c)) 384 e) refl
  parts-by false = refl

  in-by : (b : Bool) → is_b m.y ≡ b → (pick b (drawn_b m s true n c) (non_b m n c)).reply ≡ pick b (pick (within 9 16 s) done unknown_byte) done
  unfolding drawn_b
  in-by true e = parts-by (within 9 16 s)
  in-by false e = whole-reply e

  in-reply : (drawn_in m s true n c).reply ≡ pick (is_b m.y) (pick (within 9 16 s) done unknown_byte) done
  unfolding drawn_in
  in-reply = in-by (is_b m.y) refl

module _ (job : Job) (subs : List ℕ) (coeffs : List ℤ) (k : ℕ) (full : length (item_of 400 k coeffs) ≡ 400) where
  pub job-reply : (job_drawn job subs coeffs k).reply ≡ pick (is_b job.modes.y) (pick (within 9 16 (item_of 16 k subs)) done unknown_byte) done
  unfolding job_drawn drawn_with
  job-reply = rw (eq-eqb (length (item_of 400 k coeffs)) 400 full) (in-reply job.modes (item_of 16 k subs) job.neighbors (item_of 400 k coeffs) full)

  pub job-refused : is_b job.modes.y ≡ true → within 9 16 (item_of 16 k subs) ≡ false → job_drawn job subs coeffs k ≡ refusal unknown_byte
  unfolding job_drawn drawn_with drawn_in drawn_b
  job-refused e f = rw (eq-eqb (length (item_of 400 k coeffs)) 400 full, e, f) refl
