-- The sum of an edge, one pixel more at each turn of a loop. Assumes nothing.
use mathlib.Core.Path.{◌≡◌, refl}
use mathlib.Core.List.{List, [], ◌∷◌}
use Prim.Native.Nat.{ℕ, zero, suc, ◌+◌, ◌<◌}
use native.Mathlib.Nat.{not-suc-le-zero, le_of_suc-le-suc}
use native.Mathlib.Numerals.{add-one}
use native.Mathlib.Omega.{arith}
use lib.ListN.{length, get_or, take}
use Rattle.rfc6386.specs.Edges.{sum_of}

pub sum-none : (xs : List ℕ) → 0 ≡ sum_of (take 0 xs)
unfolding sum_of
sum-none xs = refl

sum-suc : (xs : List ℕ) (i : ℕ) → i < length xs → sum_of (take i xs) + get_or xs i 0 ≡ sum_of (take (suc i) xs)
unfolding sum_of
sum-suc [] i h = absurd (not-suc-le-zero h)
sum-suc (x ∷ xs) zero h = omega arith
sum-suc (x ∷ xs) (suc i) h = let e = sum-suc xs i (le_of_suc-le-suc h) in omega arith

pub sum-turn : (xs : List ℕ) (i s : ℕ) → s ≡ sum_of (take i xs) → i < length xs → s + get_or xs i 0 ≡ sum_of (take (i + 1) xs)
sum-turn xs i s e h = rw (add-one, e) (sum-suc xs i h)
