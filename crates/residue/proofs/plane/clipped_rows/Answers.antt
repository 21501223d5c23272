-- `residue::plane::clipped_rows` meets its contract: after i turns the count is that of the first i sums. Assumes nothing.
use mathlib.Core.Path.{◌≡◌, refl}
use Prim.Native.Nat.{◌*◌, ◌/◌, ◌≤◌}
use native.Mathlib.Nat.{mul-le-mul_right}
use native.Mathlib.Omega.{arith}
use Rattle.clipping.specs.Clipped.{clipped_at}
use Rattle.lists.specs.Lists.{total}
use Rattle.clipping.proofs.Counted.{over-≤}
use Rattle.residue.proofs.Counted.{count_turn}
use Rattle.residue.proofs.plane.clipped_rows.Goals as goal
use Rattle.residue.proofs.plane.clipped_rows.Goals.{After-over-n, In-loop-i}

-- the row of pixel i is at most the third
row : (c : In-loop-i) → c.loop-i.i / 4 * c.args.stride ≤ 3 * c.args.stride
row c = mul-le-mul_right c.args.stride (omega arith)

-- a turn adds at most 1
one : (c : After-over-n) → c.over-n.result ≤ 1
one c = rw c.over-n.ensures (over-≤ _ _)

pub loop-i-init : goal.loop-i-init
unfolding total
loop-i-init c = (omega arith, refl, omega arith)

pub overflow_add-n : goal.overflow_add-n
overflow_add-n c = omega (arith, one c)

pub loop-i-preserved : goal.loop-i-preserved
loop-i-preserved c =
    let a = c.args in (
      omega arith,
      count_turn a.stride a.residue a.part.now c.loop-i.i _ _ c.loop-i.invariant.1 c.over-arg-1.given c.over-n.ensures,
      omega (arith, one c),
    )

pub returns : goal.returns
unfolding clipped_at
returns c =
    let l = c.loop-i in
    let full : l.i ≡ 16 = omega arith in
    rw full at l.invariant.1

pub overflow_mul-j : goal.overflow_mul-j
overflow_mul-j c = omega (arith, row c)

pub overflow_add-j : goal.overflow_add-j
overflow_add-j c = omega (arith, row c)

pub bounds-part-j : goal.bounds-part-j
bounds-part-j c = omega (arith, row (goal.at.bounds-part-j c).In-loop-i)
