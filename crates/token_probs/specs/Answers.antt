-- What the two public functions say: a default probability with its rule, and whether a table has a 0.
use Rattle.std.specs.Prelude.{ℕ, ◌≤◌, ◌<◌, ◌≡◌, Bool, true, ◌&&◌, List, [], ◌∷◌, ltb, get_or}
use Rattle.token_probs.specs.Defaults.{default_probs}

-- one of the 1,056, or 0 past the end; each of them is from 1 to 255
pub record Default (i r : ℕ) : Type 0 where
  pub is : r ≡ get_or default_probs i 0
  pub rule : i < 1056 → (1 ≤ r) × (r ≤ 255)

unfoldable pub no_zero : List ℕ → Bool
no_zero [] = true
no_zero (p ∷ ps) = ltb 0 p && no_zero ps
