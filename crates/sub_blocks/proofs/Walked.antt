-- The walk by block rows, with the residues made four blocks side by side, is the walk sub-block by sub-block; and so is the walk of
-- predictions alone, where the coefficients are skipped. Assumes nothing.
use Prim.Native.Nat.{ℕ, ◌+◌, ◌*◌, ◌/◌, ◌%◌, ◌<◌}
use mathlib.Core.Path.{◌≡◌, refl, sym, ap, ◌∙◌}
use mathlib.Core.Bool.{true, false}
use mathlib.Core.List.{List}
use native.Mathlib.Omega.{arith}
use lib.IntN.{ℤ, pos}
use lib.ListN.{get_or}
use Rattle.lists.specs.Lists.{turns}
use Rattle.lists.proofs.Table.{table-ext}
use Rattle.lists.proofs.Nested.{turns-ext, turns-rows}
use Rattle.macroblock.specs.declared.modes.IntraBmode.{IntraBmode}
use Rattle.rfc6386.specs.Dct.{residue}
use Rattle.rfc6386.specs.Residue.{sum}
use Rattle.rfc6386.specs.Walk.{block_at, corner_of, sub_prediction, sub_pixels, put_block, sub_block, walked}
use Rattle.rfc6386.proofs.DctBlocks.{residue-ext}
use Rattle.blocks.specs.Taken.{residues_from}
use Rattle.blocks.proofs.Places.{residues-at}
use Rattle.sub_blocks.specs.Steps.{summed_with, prediction_at, coded_block, coded_at, skipped_block, skipped_at}

module _ (modes : List IntraBmode) (coeffs : List ℤ) where
  -- the residues of block j of block row i are those of block 4 i + j
  pub residue-of : (i j n : ℕ) → i < 4 → j < 4 → n < 16
      → get_or (residues_from coeffs (64 * i)) (16 * (n / 4) + 4 * j + n % 4) (pos 0) ≡ residue (block_at coeffs 0 (i * 4 + j)) (n / 4) (n % 4)
  residue-of i j n hi hj hn =
      residues-at coeffs (64 * i) (n / 4) j (n % 4) (omega arith) hj (omega arith)
      ∙ residue-ext (block_at coeffs (64 * i) j) (block_at coeffs 0 (i * 4 + j))
      (λ k l. let e : 64 * i + 16 * j + k ≡ 0 + 16 * (i * 4 + j) + k = omega arith in rw e) (n / 4) (n % 4)

  pub coded-is : (i j : ℕ) (b : List ℕ) → i < 4 → j < 4 → coded_at modes (residues_from coeffs (64 * i)) i j b ≡ sub_block modes false coeffs (i * 4 + j) b
  unfolding coded_block prediction_at sub_block sub_pixels sub_prediction summed_with
  coded-is i j b hi hj =
      let k : 4 * i + j ≡ i * 4 + j = omega arith in
      rw k
      (ap (λ (px : List ℕ). put_block (corner_of (i * 4 + j)) px b)
      (table-ext 16 _ _ λ n l. ap (λ (z : ℤ). sum (get_or (sub_prediction modes (i * 4 + j) b) n 0) z) (residue-of i j n hi hj l)))

  pub coded-rows : (b : List ℕ) → turns 4 (λ i. turns 4 (coded_at modes (residues_from coeffs (64 * i)) i)) b ≡ walked 16 modes false coeffs b
  unfolding walked
  coded-rows b =
      turns-ext 4 _ (λ i. turns 4 (λ j. sub_block modes false coeffs (i * 4 + j))) b
      (λ i y l. turns-ext 4 _ (λ j. sub_block modes false coeffs (i * 4 + j)) y (λ j z k. coded-is i j z l k))
      ∙ sym (turns-rows 4 4 (sub_block modes false coeffs) b)

  pub skipped-all : (b : List ℕ) → turns 16 (skipped_at modes) b ≡ walked 16 modes true coeffs b
  unfolding walked skipped_block prediction_at sub_block sub_pixels sub_prediction
  skipped-all b = refl
