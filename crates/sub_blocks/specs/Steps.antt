-- The steps of the walk that the code takes and RFC 6386 does not name: the residues of a block row come four blocks side by side.
use Rattle.std.specs.Prelude.{ℕ, ◌+◌, ◌*◌, ◌/◌, ◌%◌, List, ℤ, pos, get_or}
use Rattle.lists.specs.Lists.{table, turns, store, total}
use Rattle.macroblock.specs.declared.modes.IntraBmode.{IntraBmode}
use Rattle.macroblock.specs.declared.modes.IntraBmode.TheVariants.{Dc}
use Rattle.rfc6386.specs.Residue.{sum}
use Rattle.clipping.specs.Clipped.{over}
use Rattle.rfc6386.specs.Subblock.{predict_b}
use Rattle.rfc6386.specs.Walk.{corner_of, above_in, left_in, top_left_in, put_block}

-- row r of sixteen pixels, put into the buffer; and the same with the residues of block j of the four added
unfoldable pub put_row : ℕ → List ℕ → ℕ → List ℕ → List ℕ
put_row at px r b = turns 4 (store (λ c. at + 21 * r + c) (λ c. get_or px (4 * r + c) 0)) b

unfoldable pub sum_row : ℕ → List ℕ → List ℤ → ℕ → ℕ → List ℕ → List ℕ
sum_row at px o j r b = turns 4 (store (λ c. at + 21 * r + c) (λ c. sum (get_or px (4 * r + c) 0) (get_or o (16 * r + 4 * j + c) (pos 0)))) b

-- sixteen pixels with the residues of block j of the four added
unfoldable pub summed_with : List ℤ → ℕ → List ℕ → List ℕ
summed_with o j px = table 16 (λ i. sum (get_or px i 0) (get_or o (16 * (i / 4) + 4 * j + i % 4) (pos 0)))

-- the prediction of sub-block k by one of the ten modes
unfoldable pub prediction_at : IntraBmode → ℕ → List ℕ → List ℕ
prediction_at mode k b = predict_b mode (above_in b (corner_of k)) (left_in b (corner_of k)) (top_left_in b (corner_of k))

-- sub-block j of block row i, in its mode
unfoldable pub coded_block : IntraBmode → List ℤ → ℕ → ℕ → List ℕ → List ℕ
coded_block mode o i j b = put_block (corner_of (4 * i + j)) (summed_with o j (prediction_at mode (4 * i + j) b)) b

abbrev pub coded_at : List IntraBmode → List ℤ → ℕ → ℕ → List ℕ → List ℕ
coded_at modes o i j = coded_block (get_or modes (4 * i + j) Dc) o i j

-- sub-block k where the coefficients are skipped, in its mode
unfoldable pub skipped_block : IntraBmode → ℕ → List ℕ → List ℕ
skipped_block mode k b = put_block (corner_of k) (prediction_at mode k b) b

abbrev pub skipped_at : List IntraBmode → ℕ → List ℕ → List ℕ
skipped_at modes k = skipped_block (get_or modes k Dc) k

-- how many of the sixteen sums of block j of the four are outside
unfoldable pub clipped_with : List ℤ → ℕ → List ℕ → ℕ
clipped_with o j px = total 16 λ i. over (get_or px i 0) (get_or o (16 * (i / 4) + 4 * j + i % 4) (pos 0))

abbrev pub clipped_in : List IntraBmode → List ℤ → ℕ → ℕ → List ℕ → ℕ
clipped_in modes o i j b = clipped_with o j (prediction_at (get_or modes (4 * i + j) Dc) (4 * i + j) b)

-- the same of block row i
unfoldable pub row_clipped : List IntraBmode → List ℤ → ℕ → List ℕ → ℕ
row_clipped modes o i b = total 4 λ j. clipped_in modes o i j (turns j (coded_at modes o i) b)
