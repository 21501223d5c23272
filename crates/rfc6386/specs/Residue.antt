-- RFC 6386, 14.5: the prediction and the residue are summed and held within 0 and 255.
use Rattle.std.specs.Prelude.{ℕ, ◌+◌, ◌*◌, ◌/◌, ◌%◌, Bool, List, leb, ℤ, pos, ◌+ℤ◌, get_or, set}
use Rattle.whole.specs.Whole.{clamp}
use Rattle.lists.specs.Lists.{table, turns, both}

-- one pixel
unfoldable pub sum : ℕ → ℤ → ℕ
sum p r = clamp (pos p +ℤ r)

-- n pixels
unfoldable pub summed : ℕ → List ℕ → List ℤ → List ℕ
summed n prediction residue = table n (λ i. sum (get_or prediction i 0) (get_or residue i (pos 0)))

-- ---- a 4x4 block of a plane
-- the block of sub-block row r and column c lies in a plane of n bytes, in whole numbers without bound
unfoldable pub lies : ℕ → ℕ → ℕ → ℕ → Bool
lies n stride r c = both (leb (4 * c + 4) stride) (leb ((4 * r + 3) * stride + 4 * c + 4) n)

-- pixel i of the block whose first pixel is at `at`: its sum with number i of the residue
abbrev pub sum_at : ℕ → ℕ → List ℤ → ℕ → List ℕ → List ℕ
sum_at at stride residue i l =
    set l (at + (i / 4 * stride + i % 4)) (sum (get_or l (at + (i / 4 * stride + i % 4)) 0) (get_or residue i (pos 0)))

-- the plane with the residue of its block added
unfoldable pub added_at : ℕ → ℕ → List ℤ → List ℕ → List ℕ
added_at at stride residue l = turns 16 (sum_at at stride residue) l
