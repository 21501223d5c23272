-- The interior limit is no more than the level, or 1: in a byte. Assumes nothing.
use Prim.Native.Nat.{ℕ, ◌-◌, ◌/◌, ◌≤◌, min, max}
use mathlib.Core.Bool.{Bool, true, false}
use native.Mathlib.Omega.{arith}
use lib.Dec.{eqb, ltb}
use Rattle.lists.specs.Lists.{pick}
use Rattle.rfc6386.specs.LoopFilter.{interior_of}

by : (level sharp : ℕ) (s t : Bool) → level ≤ 63 → max 1 (pick s level (min (9 - sharp) (level / pick t 4 2))) ≤ 63
by level sharp true t h = omega arith
by level sharp false true h = omega arith
by level sharp false false h = omega arith

pub interior-small : (level sharp : ℕ) → level ≤ 63 → interior_of level sharp ≤ 63
unfolding interior_of
interior-small level sharp h = by level sharp (eqb sharp 0) (ltb 4 sharp) h
