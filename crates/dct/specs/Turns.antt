-- The turns of the inverse DCT's loops, on rows of w numbers. Four blocks side by side, w = 16: row i of block b is at 16 i + 4 b.
--
--        block 0  block 1  block 2  block 3
--        0 .. 3   4 .. 7   8 .. 11  12 .. 15     row 0 of each
--        16 ..    20 ..    24 ..    28 ..        row 1
--        32 ..    36 ..    40 ..    44 ..        row 2
--        48 ..    52 ..    56 ..    60 ..        row 3
use Rattle.std.specs.Prelude.{ℕ, ◌+◌, ◌*◌, ◌/◌, ◌%◌, List, ℤ, pos, set, replicate}
use Rattle.lists.specs.Lists.{turns, store}
use Rattle.rfc6386.specs.Dct.{entry}
use Rattle.dct_line.specs.Lines.{line_of, row_of}

-- four numbers stored at i0, i1, i2, i3
abbrev pub stored : ℕ → ℕ → ℕ → ℕ → ℤ → ℤ → ℤ → ℤ → List ℤ → List ℤ
stored i0 i1 i2 i3 x0 x1 x2 x3 l = set (set (set (set l i0 x0) i1 x1) i2 x2) i3 x3

-- column j of the rows of w
unfoldable pub column_turn : ℕ → List ℤ → ℕ → List ℤ → List ℤ
column_turn w s j t =
    let f = line_of (entry s j) (entry s (j + w)) (entry s (j + w + w)) (entry s (j + w + w + w)) in
    stored j (j + w) (j + w + w) (j + w + w + w) (entry f 0) (entry f 1) (entry f 2) (entry f 3) t

-- the four numbers from 4 q on
unfoldable pub row_turn : List ℤ → ℕ → List ℤ → List ℤ
row_turn t q o =
    let f = row_of (entry t (4 * q)) (entry t (4 * q + 1)) (entry t (4 * q + 2)) (entry t (4 * q + 3)) in
    stored (4 * q) (4 * q + 1) (4 * q + 2) (4 * q + 3) (entry f 0) (entry f 1) (entry f 2) (entry f 3) o

-- n numbers of l from `from` on, put into s from `to` on
unfoldable pub widened : ℕ → ℕ → ℕ → List ℤ → List ℤ → List ℤ
widened n to from l s = turns n (store (λ i. to + i) (λ i. entry l (from + i))) s

-- row k % 4 of block k / 4, put beside the same row of the other blocks
abbrev pub beside_turn : List ℤ → ℕ → List ℤ → List ℤ
beside_turn l k s = widened 4 (16 * (k % 4) + 4 * (k / 4)) (4 * k) l s

unfoldable pub besides : List ℤ → List ℤ
besides l = turns 16 (beside_turn l) (replicate 64 (pos 0))
