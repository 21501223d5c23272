-- Coefficients taken from a list, 0 where it has ended.
use Rattle.std.specs.Prelude.{ℕ, ◌+◌, List, ℤ, pos, get_or}
use Rattle.lists.specs.Lists.{table}
use Rattle.rfc6386.specs.Dct.{idct_four}

-- the n from `at` on
unfoldable pub taken : ℕ → List ℤ → ℕ → List ℤ
taken n coeffs at = table n (λ k. get_or coeffs (at + k) (pos 0))

-- the residues of the four blocks from `at` on, side by side
unfoldable pub residues_from : List ℤ → ℕ → List ℤ
residues_from coeffs at = idct_four (taken 64 coeffs at)
