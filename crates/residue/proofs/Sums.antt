-- A loop of sums, one pixel a turn: a turn stores the next sum, and at the end all are there. Assumes nothing.
use mathlib.Core.Path.{◌≡◌, ap, ◌∙◌}
use mathlib.Core.List.{List, ◌++◌}
use Prim.Native.Nat.{ℕ, ◌+◌, ◌<◌}
use lib.IntN.{ℤ, pos}
use lib.ListN.{length, get_or, set, drop}
use Rattle.lists.specs.Lists.{table}
use Rattle.lists.proofs.Table.{table-turn, table_done}
use Rattle.whole.proofs.Held.{R16}
use Rattle.rfc6386.specs.Residue.{sum, summed}

-- pixel i
abbrev pub sum_of : List ℕ → List ℤ → ℕ → ℕ
sum_of p r i = sum (get_or p i 0) (get_or r i (pos 0))

module _ (p : List ℕ) (r : List ℤ) where
  pub sum-turn : (i v : ℕ) (d xs : List ℕ) → xs ≡ table i (sum_of p r) ++ drop i d → R16 (get_or r i (pos 0)) ≡ get_or r i (pos 0)
      → v ≡ sum (get_or p i 0) (R16 (get_or r i (pos 0))) → i < length d → set xs i v ≡ table (i + 1) (sum_of p r) ++ drop (i + 1) d
  sum-turn i v d xs e m s h =
      table-turn i (sum_of p r) v d xs e (s ∙ ap (λ (z : ℤ). sum (get_or p i 0) z) m) h

  pub sum_done : (n : ℕ) (d xs : List ℕ) → xs ≡ table n (sum_of p r) ++ drop n d → length d ≡ n → xs ≡ summed n p r
  unfolding summed
  sum_done n d xs e h = table_done n (sum_of p r) d xs e h
