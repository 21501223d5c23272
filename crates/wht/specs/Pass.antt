-- The steps of the inverse WHT as the code takes them: a pass over the columns writes its results as rows, so that two of the same passes, and
-- the rounding, are the transform.
use Rattle.std.specs.Prelude.{ℕ, ◌/◌, ◌%◌, ◌≤◌, List, [], ◌∷◌, ℤ, pos, nat_abs, get_or}
use Rattle.lists.specs.Lists.{table}
use Rattle.rfc6386.specs.Wht.{wht_pass, wht_column, wht_round}

-- numbers of magnitude at most B
pub record Small (B : ℕ) (i0 i1 i2 i3 : ℤ) : Type 0 where
  pub s0 : nat_abs i0 ≤ B
  pub s1 : nat_abs i1 ≤ B
  pub s2 : nat_abs i2 ≤ B
  pub s3 : nat_abs i3 ≤ B

pub record Within (B : ℕ) (l : List ℤ) : Type 0 where
  pub within : (k : ℕ) → nat_abs (get_or l k (pos 0)) ≤ B

unfoldable pub line_of : ℤ → ℤ → ℤ → ℤ → List ℤ
line_of i0 i1 i2 i3 = wht_pass 0 i0 i1 i2 i3 ∷ wht_pass 1 i0 i1 i2 i3 ∷ wht_pass 2 i0 i1 i2 i3 ∷ wht_pass 3 i0 i1 i2 i3 ∷ []

-- number i after a pass: result i % 4 of column i / 4
abbrev pub passed_at : List ℤ → ℕ → ℤ
passed_at l i = wht_column (λ k. get_or l k (pos 0)) (i % 4) (i / 4)

unfoldable pub passed : List ℤ → List ℤ
passed l = table 16 (passed_at l)

unfoldable pub rounded_of : List ℤ → List ℤ
rounded_of l = table 16 (λ i. wht_round (get_or l i (pos 0)))
