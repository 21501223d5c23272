-- An entry of a table of 128 numbers that are never negative.
use Rattle.std.specs.Prelude.{ℕ, ◌<◌, ◌≡◌, List, ℤ, pos, nat_abs, get_or}
use Rattle.rfc6386.specs.Quantiser.{clamp_index}

-- no entry is negative, and each fits 16 bits with its sign
pub record Unsigned (table : List ℤ) : Type 0 where
  pub never-negative : (k : ℕ) → k < 128 → get_or table k (pos 0) ≡ pos (nat_abs (get_or table k (pos 0)))
  pub small : (k : ℕ) → k < 128 → nat_abs (get_or table k (pos 0)) < 32768

unfoldable pub entry_of : List ℤ → ℤ → ℕ
entry_of table q = nat_abs (get_or table (clamp_index q) (pos 0))
