-- `residue::plane::add_rows` meets its contract. Assumes nothing.
use mathlib.Core.Path.{refl, ap, ◌∙◌}
use Prim.Native.Nat.{ℕ, ◌+◌, ◌*◌, ◌/◌, ◌%◌, ◌≤◌}
use native.Mathlib.Nat.{mul-le-mul_right}
use native.Mathlib.Omega.{arith}
use lib.IntN.{pos}
use lib.ListN.{get_or, set, length-set}
use Rattle.lists.specs.Lists.{turns}
use Rattle.lists.proofs.Turns.{turns-step, turns-done}
use Rattle.whole.proofs.Held.{held16}
use Rattle.rfc6386.specs.Residue.{sum_at, added_at}
use Rattle.residue.proofs.Part.{turn-in-part}
use Rattle.residue.proofs.plane.add_rows.Goals as goal
use Rattle.residue.proofs.plane.add_rows.Goals.{In-loop-i}

-- the row of pixel i is at most the third
row : (c : In-loop-i) → c.loop-i.i / 4 * c.args.stride ≤ 3 * c.args.stride
row c = mul-le-mul_right c.args.stride (omega arith)

pub loop-i-init : goal.loop-i-init
unfolding turns
loop-i-init c = (omega arith, refl, refl)

pub loop-i-preserved : goal.loop-i-preserved
loop-i-preserved c =
    let a = c.args in
    let i = c.loop-i.i in
    let j = i / 4 * a.stride + i % 4 in (
      omega arith,
      simp length-set c.loop-i.invariant.1,
      turns-step i (sum_at 0 a.stride a.residue) _ c.loop-i.part _ c.loop-i.invariant.2
          (ap (λ (v : ℕ). set c.loop-i.part j v) (c.sum.ensures ∙ rw (held16 (get_or a.residue i (pos 0)) c.sum-arg-1.given))
          ∙ turn-in-part a.stride a.residue i c.loop-i.part),
    )

pub returns : goal.returns
unfolding added_at
returns c = turns-done _ _ _ _ _ c.loop-i.invariant.2 c.loop-i.invariant.0 c.loop-i-test.false

pub overflow_mul-j : goal.overflow_mul-j
overflow_mul-j c = omega (arith, row c)

pub overflow_add-j : goal.overflow_add-j
overflow_add-j c = omega (arith, row c)

pub bounds-part-j : goal.bounds-part-j
bounds-part-j c = omega (arith, row (goal.at.bounds-part-j c).In-loop-i)

pub bounds-part-j-in-loop-i : goal.bounds-part-j-in-loop-i
bounds-part-j-in-loop-i c = omega (arith, row (goal.at.bounds-part-j-in-loop-i c).In-loop-i)
