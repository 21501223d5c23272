-- Turn i of block k: its coefficient i by its factor, in place.
use Rattle.std.specs.Prelude.{ℕ, ◌+◌, ◌*◌, List, eqb, ℤ, pos, get_or, set}
use Rattle.lists.specs.Lists.{pick, turns}
use Rattle.rfc6386.specs.Quantiser.{dequant}

abbrev pub coefficient : ℤ → ℤ → ℕ → ℕ → List ℤ → List ℤ
coefficient dc ac k i l = set l (k * 16 + i) (dequant (get_or l (k * 16 + i) (pos 0)) (pick (eqb i 0) dc ac))

-- block k
unfoldable pub block_scaled : ℤ → ℤ → ℕ → List ℤ → List ℤ
block_scaled dc ac k l = turns 16 (coefficient dc ac k) l

-- n blocks from block `first` on
unfoldable pub blocks_scaled : ℤ → ℤ → ℕ → ℕ → List ℤ → List ℤ
blocks_scaled dc ac first n l = turns n (λ k. block_scaled dc ac (first + k)) l
