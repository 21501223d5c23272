-- The steps of the code that RFC 6386 does not name: residues come four blocks side by side, and are added to pixels in place.
use Rattle.std.specs.Prelude.{ℕ, ◌+◌, ◌*◌, ◌/◌, ◌%◌, List, ℤ, pos, length, get_or, set}
use Rattle.lists.specs.Lists.{table, turns, store, total}
use Rattle.rfc6386.specs.Residue.{sum}
use Rattle.clipping.specs.Clipped.{over}
use Rattle.blocks.specs.Taken.{taken}

-- the four blocks of luma block row i with their DCs
unfoldable pub seeded_four : List ℤ → List ℤ → ℕ → List ℤ
seeded_four coeffs dcs i = turns 4 (store (λ j. 16 * j) (λ j. get_or dcs (4 * i + j) (pos 0))) (taken 64 coeffs (16 + 64 * i))

-- all pixels of a run, each with its residue added, of those from `start` on
abbrev pub all_added : List ℤ → ℕ → List ℕ → List ℕ
all_added o start px = table (length px) (λ k. sum (get_or px k 0) (get_or o (start + k) (pos 0)))

-- n pixels side by side from `at` on: each with its residue added, of those from `start` on; and how many sums are outside
unfoldable pub run_added : List ℤ → ℕ → ℕ → ℕ → List ℕ → List ℕ
run_added o at start n = turns n (λ k px. set px (at + k) (sum (get_or px (at + k) 0) (get_or o (start + k) (pos 0))))

unfoldable pub run_clipped : List ℕ → List ℤ → ℕ → ℕ → ℕ → ℕ
run_clipped px o at start n = total n λ k. over (get_or px (at + k) 0) (get_or o (start + k) (pos 0))

-- luma block row i, which is 64 pixels
abbrev pub group_added : List ℤ → ℕ → List ℕ → List ℕ
group_added o i = run_added o (i * 64) 0 64

abbrev pub group_clipped : List ℕ → List ℤ → ℕ → ℕ
group_clipped px o i = run_clipped px o (i * 64) 0 64

-- row r of chroma, and where its residues begin
abbrev pub residues_at : ℕ → ℕ
residues_at r = 16 * (r % 4) + 8 * (r / 4)

abbrev pub row_added : List ℤ → ℕ → List ℕ → List ℕ
row_added o r = run_added o (r * 8) (residues_at r) 8

abbrev pub row_clipped : List ℕ → List ℤ → ℕ → ℕ
row_clipped px o r = run_clipped px o (r * 8) (residues_at r) 8
