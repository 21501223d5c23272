-- Above-right copied down to rows 4, 8 and 12, one row a turn. Assumes nothing.
use Prim.Native.Nat.{ℕ, ◌+◌, ◌*◌}
use mathlib.Core.Path.{◌≡◌, refl}
use mathlib.Core.List.{List}
use Rattle.lists.specs.Lists.{turns}
use Rattle.rfc6386.specs.Walk.{laid, copied_down}

abbrev pub down : List ℕ → ℕ → List ℕ → List ℕ
down right i = laid 4 (101 + 84 * i) 1 right

pub down-all : (right b : List ℕ) → turns 3 (down right) b ≡ copied_down right b
unfolding turns copied_down
down-all right b = refl
