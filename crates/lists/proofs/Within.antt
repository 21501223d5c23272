-- Laws of `within`.
--     within-fails, within-goes-on     one number more: the test fails at one that is too large, and goes on at one that is not
--     within_first                     the first n of the first n
-- Assumes nothing.
use Prim.Native.Nat.{ℕ, zero, suc, ◌+◌, ◌<◌, ◌≤◌}
use mathlib.Core.Bool.{Bool, false}
use mathlib.Core.List.{List}
use mathlib.Core.Path.{◌≡◌, refl}
use native.Mathlib.Numerals.{add-one}
use native.Mathlib.Omega.{arith}
use borrow.Author.Tests.{lt-leb, le-leb}
use lib.ListN.{get_or, take}
use lib.Seq.{get_or-take}
use Rattle.lists.specs.Lists.{within}

module _ (m k : ℕ) (s : List ℕ) where
  pub within-fails : m < get_or s k 0 → false ≡ within m (k + 1) s
  unfolding within
  within-fails h = rw (add-one, lt-leb (get_or s k 0) m h)

  pub within-goes-on : (b : Bool) → get_or s k 0 ≤ m → b ≡ within m k s → b ≡ within m (k + 1) s
  unfolding within
  within-goes-on b h e = rw (add-one, le-leb (get_or s k 0) m h) e

pub within_first : (m n k : ℕ) (s : List ℕ) → n ≤ k → within m n (take k s) ≡ within m n s
unfolding within
within_first m zero k s h = refl
within_first m (suc n) k s h = rw (get_or-take k s n 0 h, within_first m n k s (omega (arith, h)))
