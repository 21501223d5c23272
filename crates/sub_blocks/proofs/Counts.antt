-- The counts of the walk by block rows are those of the walk sub-block by sub-block. Assumes nothing.
use Prim.Native.Nat.{ℕ, ◌+◌, ◌*◌, ◌<◌, ◌≤◌}
use mathlib.Core.Path.{◌≡◌, sym, ap, ◌∙◌}
use mathlib.Core.Bool.{true, false}
use mathlib.Core.List.{List}
use native.Mathlib.Omega.{arith}
use lib.IntN.{ℤ}
use lib.ListN.{get_or}
use Rattle.lists.specs.Lists.{turns, total}
use Rattle.lists.proofs.Nested.{turns-ext, turns-rows, turns-add}
use Rattle.macroblock.specs.declared.modes.IntraBmode.{IntraBmode}
use Rattle.rfc6386.specs.Walk.{block_at, sub_prediction, sub_block, walked}
use Rattle.clipping.specs.Clipped.{over, sub_clipped, walked_clipped}
use Rattle.lists.proofs.Total.{total-≤, total_ext, total-none, total-flat}
use Rattle.clipping.proofs.Counted.{over-≤}
use Rattle.blocks.specs.Taken.{residues_from}
use Rattle.sub_blocks.specs.Steps.{prediction_at, coded_at, clipped_with, clipped_in, row_clipped}
use Rattle.sub_blocks.proofs.Walked.{residue-of, coded-is}

pub with-≤ : (o : List ℤ) (j : ℕ) (px : List ℕ) → clipped_with o j px ≤ 16
unfolding clipped_with
with-≤ o j px = total-≤ 1 16 _ λ i l. over-≤ _ _

pub row-≤ : (modes : List IntraBmode) (o : List ℤ) (i : ℕ) (b : List ℕ) → row_clipped modes o i b ≤ 64
unfolding row_clipped
row-≤ modes o i b = total-≤ 16 4 _ λ j l. with-≤ o j _

module _ (modes : List IntraBmode) (coeffs : List ℤ) (b : List ℕ) where
  pub skipped-none : 0 ≡ walked_clipped 16 modes true coeffs b
  unfolding walked_clipped sub_clipped
  skipped-none = sym (total-none 16)

  -- the buffer before sub-block j of block row i
  before : (i j : ℕ) → i < 4 → j < 4
      → turns j (coded_at modes (residues_from coeffs (64 * i)) i) (turns i (λ k. turns 4 (coded_at modes (residues_from coeffs (64 * k)) k)) b)
      ≡ walked (i * 4 + j) modes false coeffs b
  unfolding walked
  before i j hi hj =
      turns-ext j (coded_at modes (residues_from coeffs (64 * i)) i) (λ j. sub_block modes false coeffs (i * 4 + j)) _
      (λ k y l. coded-is modes coeffs i k y hi (omega arith))
      ∙ ap (λ (x : List ℕ). turns j (λ j. sub_block modes false coeffs (i * 4 + j)) x)
      (turns-ext i (λ k. turns 4 (coded_at modes (residues_from coeffs (64 * k)) k)) (λ k. turns 4 (λ j. sub_block modes false coeffs (k * 4 + j))) b
      (λ k y l. turns-ext 4 _ (λ j. sub_block modes false coeffs (k * 4 + j)) y (λ j z m. coded-is modes coeffs k j z (omega arith) m))
      ∙ sym (turns-rows 4 i (sub_block modes false coeffs) b))
      ∙ sym (turns-add (i * 4) j (sub_block modes false coeffs) b)

  one : (i j : ℕ) → i < 4 → j < 4
      → clipped_in modes (residues_from coeffs (64 * i)) i j
      (turns j (coded_at modes (residues_from coeffs (64 * i)) i) (turns i (λ k. turns 4 (coded_at modes (residues_from coeffs (64 * k)) k)) b))
      ≡ sub_clipped false (sub_prediction modes (i * 4 + j) (walked (i * 4 + j) modes false coeffs b)) (block_at coeffs 0 (i * 4 + j))
  unfolding clipped_with sub_clipped prediction_at sub_prediction
  one i j hi hj =
      let k : 4 * i + j ≡ i * 4 + j = omega arith in
      rw (before i j hi hj, k)
      (total_ext 16 _ _ λ n l.
      ap (λ (z : ℤ). over (get_or (sub_prediction modes (i * 4 + j) (walked (i * 4 + j) modes false coeffs b)) n 0) z)
      (residue-of modes coeffs i j n hi hj l))

  pub coded-counts : total 4
      (λ i. row_clipped modes (residues_from coeffs (64 * i)) i (turns i (λ k. turns 4 (coded_at modes (residues_from coeffs (64 * k)) k)) b))
      ≡ walked_clipped 16 modes false coeffs b
  unfolding walked_clipped row_clipped
  coded-counts = total-flat 4 4 _ _ one
