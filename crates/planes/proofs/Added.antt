-- Residues added to pixels in place, 64 to a luma block row and 8 to a chroma row, are the plane with the residues of its blocks added.
-- Assumes nothing.
use Prim.Native.Nat.{ℕ, ◌+◌, ◌*◌, ◌/◌, ◌%◌, ◌<◌}
use mathlib.Core.Path.{◌≡◌, sym, ap, ◌∙◌}
use mathlib.Core.List.{List}
use native.Mathlib.Omega.{arith}
use lib.Dec.{lit<}
use lib.IntN.{ℤ, pos}
use lib.ListN.{length, get_or}
use Rattle.lists.specs.Lists.{turns, total}
use Rattle.lists.proofs.Rows.{rows_ext, rows-flat}
use Rattle.lists.proofs.Each.{rows-each}
use Rattle.rfc6386.specs.Dct.{residue, idct_four}
use Rattle.rfc6386.specs.Residue.{sum}
use Rattle.rfc6386.specs.Walk.{block_at, seeded, added_blocks}
use Rattle.blocks.specs.Taken.{residues_from}
use Rattle.blocks.proofs.Places.{residues-at}
use Rattle.clipping.specs.Clipped.{over, blocks_clipped}
use Rattle.lists.proofs.Total.{total_ext, total-flat}
use Rattle.planes.specs.Steps.{run_added, run_clipped, group_added, row_added, group_clipped, row_clipped}
use Rattle.planes.proofs.Seeded.{row_of, seeded-residue}

module _ (coeffs : List ℤ) (p : List ℕ) where
  -- luma: pixel n of the 256
  flat : ℕ → ℕ
  flat n = sum (get_or p n 0) (get_or (idct_four (row_of coeffs (n / 64))) (n % 64) (pos 0))

  by-group : (i k : ℕ) → i < 4 → k < 64 → sum (get_or p (i * 64 + k) 0) (get_or (idct_four (row_of coeffs i)) (0 + k) (pos 0)) ≡ flat (i * 64 + k)
  unfolding flat
  by-group i k hi hk =
      let q : (i * 64 + k) / 64 ≡ i = omega arith in
      let m : (i * 64 + k) % 64 ≡ k = omega arith in
      let z : 0 + k ≡ k = omega arith in
      rw (q, m, z)

  by_row : (r c : ℕ) → r < 16 → c < 16 → sum (get_or p (r * 16 + c) 0) (residue (seeded coeffs (4 * (r / 4) + c / 4)) (r % 4) (c % 4)) ≡ flat (r * 16 + c)
  unfolding flat
  by_row r c hr hc =
      let q : (r * 16 + c) / 64 ≡ r / 4 = omega arith in
      let m : (r * 16 + c) % 64 ≡ 16 * (r % 4) + c = omega arith in
      rw (q, m, seeded-residue coeffs (r / 4) (omega arith) (r % 4) c (omega arith) hc)

  pub luma-added : length p ≡ 256 → turns 4 (λ i. group_added (idct_four (row_of coeffs i)) i) p ≡ added_blocks 16 p (seeded coeffs)
  unfolding run_added added_blocks
  luma-added e =
      rows-each 0 64 4 (λ i k x. sum x (get_or (idct_four (row_of coeffs i)) (0 + k) (pos 0))) p (lit< tt) e
      ∙ rows-flat 64 4 _ flat by-group
      ∙ sym (rows-flat 16 16 _ flat by_row)

  pub chroma-added : (base : ℕ) → length p ≡ 64 → turns 8 (row_added (residues_from coeffs base)) p ≡ added_blocks 8 p (block_at coeffs base)
  unfolding run_added added_blocks
  chroma-added base e =
      rows-each 0 8 8 (λ r c x. sum x (get_or (residues_from coeffs base) (16 * (r % 4) + 8 * (r / 4) + c) (pos 0))) p (lit< tt) e
      ∙ rows_ext 8 8 _ _ λ r c l k.
      let i : 16 * (r % 4) + 8 * (r / 4) + c ≡ 16 * (r % 4) + 4 * (2 * (r / 4) + c / 4) + c % 4 = omega arith in
      ap (λ (z : ℤ). sum (get_or p (r * 8 + c) 0) z)
      (rw i (residues-at coeffs base (r % 4) (2 * (r / 4) + c / 4) (c % 4) (omega arith) (omega arith) (omega arith)))

  -- ---- and their counts
  flat-over : ℕ → ℕ
  flat-over n = over (get_or p n 0) (get_or (idct_four (row_of coeffs (n / 64))) (n % 64) (pos 0))

  over-group : (i k : ℕ) → i < 4 → k < 64 → over (get_or p (i * 64 + k) 0) (get_or (idct_four (row_of coeffs i)) (0 + k) (pos 0)) ≡ flat-over (i * 64 + k)
  unfolding flat-over
  over-group i k hi hk =
      let q : (i * 64 + k) / 64 ≡ i = omega arith in
      let m : (i * 64 + k) % 64 ≡ k = omega arith in
      let z : 0 + k ≡ k = omega arith in
      rw (q, m, z)

  over-row : (r c : ℕ) → r < 16 → c < 16 → over (get_or p (r * 16 + c) 0) (residue (seeded coeffs (4 * (r / 4) + c / 4)) (r % 4) (c % 4)) ≡ flat-over (r * 16 + c)
  unfolding flat-over
  over-row r c hr hc =
      let q : (r * 16 + c) / 64 ≡ r / 4 = omega arith in
      let m : (r * 16 + c) % 64 ≡ 16 * (r % 4) + c = omega arith in
      rw (q, m, seeded-residue coeffs (r / 4) (omega arith) (r % 4) c (omega arith) hc)

  pub luma-clipped : total 4 (λ i. group_clipped p (idct_four (row_of coeffs i)) i) ≡ blocks_clipped 16 p (seeded coeffs)
  unfolding run_clipped blocks_clipped
  luma-clipped = total-flat 64 4 _ flat-over over-group ∙ sym (total-flat 16 16 _ flat-over over-row)

  pub chroma-clipped : (base : ℕ) → total 8 (row_clipped p (residues_from coeffs base)) ≡ blocks_clipped 8 p (block_at coeffs base)
  unfolding run_clipped blocks_clipped
  chroma-clipped base =
      total_ext 8 _ _ λ r l.
      total_ext 8 _ _ λ c k.
      let i : 16 * (r % 4) + 8 * (r / 4) + c ≡ 16 * (r % 4) + 4 * (2 * (r / 4) + c / 4) + c % 4 = omega arith in
      ap (λ (z : ℤ). over (get_or p (r * 8 + c) 0) z)
      (rw i (residues-at coeffs base (r % 4) (2 * (r / 4) + c / 4) (c % 4) (omega arith) (omega arith) (omega arith)))
