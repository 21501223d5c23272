-- The sum of a list of bytes. Assumes nothing.
use mathlib.Core.Path.{◌≡◌, ◌∙◌}
use mathlib.Core.List.{List, [], ◌∷◌}
use Prim.Native.Nat.{ℕ, suc, ◌+◌, ◌*◌, ◌<◌, ◌≤◌}
use native.Mathlib.Omega.{arith}
use lib.ListN.{length, get_or}
use Rattle.std.specs.Prelude.{sum, fold}
use Rattle.rfc6386.specs.Edges.{sum_of}

from : (a : ℕ) (xs : List ℕ) → fold (λ x y. x + y) a xs ≡ a + sum_of xs
unfolding sum_of
from a [] = omega arith
from a (x ∷ xs) = from (a + x) xs ∙ omega arith

pub sum-is : (xs : List ℕ) → sum xs ≡ sum_of xs
sum-is xs = from 0 xs ∙ omega arith

pub sum-bytes : (xs : List ℕ) → ((i : ℕ) → get_or xs i 0 < 256) → sum_of xs ≤ 255 * length xs
unfolding sum_of
sum-bytes [] h = omega arith
sum-bytes (x ∷ xs) h = let k : x < 256 = h 0 in let t = sum-bytes xs (λ i. h (suc i)) in omega arith
