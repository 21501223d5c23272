-- What may move, and what may not. A place (a sub-block of a macroblock, a macroblock of a picture) in row r and column c reads the place to its left and, of
-- the row above, the places above left, above and above right. So a change at # spreads to the right, down, and down to the left:
--
--        . . . . . . . .        # changed, row kr and column kc
--        . . . . # x x x        x may move
--        . . . x x x x x        . untouched: above #, left of it, and below it where c + (r - kr) < kc
--        . . x x x x x x
--
-- Chroma reads nothing above right:
--
--        . . . . . . . .
--        . . . . # x x x
--        . . . . x x x x        . untouched: above #, and in every column to its left
--        . . . . x x x x
use Rattle.std.specs.Prelude.{ℕ, suc, ◌+◌, ◌-◌, ◌/◌, ◌<◌, ◌≤◌, ◌≡◌, List, ◌⊎◌, ℤ, pos, get_or}
use Rattle.walker_laws.specs.Chroma.{luma_of_16x16}

abbrev pub Untouched : ℕ → ℕ → ℕ → ℕ → Type 0
Untouched kr kc r c = (r < kr) ⊎ (c + (r - kr) < kc)

abbrev pub UntouchedChroma : ℕ → ℕ → ℕ → ℕ → Type 0
UntouchedChroma kr kc r c = (r < kr) ⊎ (c < kc)

-- ---- places that read one another only: with a place, each that it reads
pub record Closed (P : ℕ → ℕ → Type 0) : Type 0 where
  pub left : (r c : ℕ) → P r (suc c) → P r c
  pub above-left : (r c : ℕ) → P (suc r) (suc c) → P r c
  pub above : (r c : ℕ) → P (suc r) c → P r c
  pub above-right : (r c : ℕ) → P (suc r) c → P r (suc c)

pub record ClosedChroma (P : ℕ → ℕ → Type 0) : Type 0 where
  pub left : (r c : ℕ) → P r (suc c) → P r c
  pub above-left : (r c : ℕ) → P (suc r) (suc c) → P r c
  pub above : (r c : ℕ) → P (suc r) c → P r c

-- ---- two lists of coefficients of a macroblock
-- the 384 of luma mode B, that differ at most in luma sub-block k
abbrev pub SameButSub : ℕ → List ℤ → List ℤ → Type 0
SameButSub k c d = (j : ℕ) → (j / 16 ≡ k → ⊥) → get_or c j (pos 0) ≡ get_or d j (pos 0)

-- the 400 of the 16x16 modes, that differ at most in the Y2 block and the Y blocks
abbrev pub SameButLuma : List ℤ → List ℤ → Type 0
SameButLuma c d = (j : ℕ) → luma_of_16x16 ≤ j → get_or c j (pos 0) ≡ get_or d j (pos 0)

-- the same, that differ at most in Y block k
abbrev pub SameButY : ℕ → List ℤ → List ℤ → Type 0
SameButY k c d = (j : ℕ) → (j / 16 ≡ suc k → ⊥) → get_or c j (pos 0) ≡ get_or d j (pos 0)
