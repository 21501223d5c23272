-- A sub-block drawn from a line: each place is on the line, and sixteen stores draw it. Assumes nothing.
use mathlib.Core.Path.{◌≡◌, refl}
use mathlib.Core.List.{List}
use Prim.Native.Nat.{ℕ, zero, suc, ◌+◌, ◌*◌, ◌/◌, ◌%◌, ◌<◌}
use native.Mathlib.Nat.{mul-le-mul_right}
use native.Mathlib.Omega.{arith}
use lib.ListN.{get_or}
use Rattle.lists.specs.Lists.{table, rows}
use Rattle.intra_subblock.specs.Line.{OnLine}

pub on_line : (starts : List ℕ) (step n r c : ℕ) → OnLine starts step n → r < 4 → c < 4 → get_or starts r 0 + c * step < n
on_line starts step n zero c h l k = let m = mul-le-mul_right {m = c} {n = 3} step (omega arith) in omega arith
on_line starts step n (suc zero) c h l k = let m = mul-le-mul_right {m = c} {n = 3} step (omega arith) in omega arith
on_line starts step n (suc (suc zero)) c h l k = let m = mul-le-mul_right {m = c} {n = 3} step (omega arith) in omega arith
on_line starts step n (suc (suc (suc zero))) c h l k = let m = mul-le-mul_right {m = c} {n = 3} step (omega arith) in omega arith
on_line starts step n (suc (suc (suc (suc r)))) c h l k = absurd (omega arith)

-- place i is that of row i / 4 and column i % 4
pub sixteen : (f : ℕ → ℕ → ℕ) → table 16 (λ i. f (i / 4) (i % 4)) ≡ rows 4 4 f
unfolding table rows
sixteen f = refl
