-- `sub_blocks::walk::coded_row` meets its contract. Assumes nothing.
use Prim.Native.Nat.{◌≤◌}
use mathlib.Core.Path.{◌≡◌, refl}
use native.Mathlib.Omega.{arith}
use Rattle.lists.specs.Lists.{turns, total}
use Rattle.lists.proofs.Turns.{turns-step, turns-done}
use Rattle.lists.proofs.Total.{total-turn}
use Rattle.sub_blocks.specs.Steps.{row_clipped}
use Rattle.sub_blocks.proofs.Counts.{with-≤}
use Rattle.sub_blocks.proofs.walk.coded_row.Goals as goal

pub loop-j-init : goal.loop-j-init
unfolding turns total
loop-j-init c = (omega arith, refl, refl, omega arith)

pub overflow_add-n : goal.overflow_add-n
overflow_add-n c = let h : c.coded_block-n.result ≤ 16 = rw c.coded_block-n.ensures.1 (with-≤ _ _ _) in omega (arith, h)

pub loop-j-preserved : goal.loop-j-preserved
loop-j-preserved c =
    let h : c.coded_block-n.result ≤ 16 = rw c.coded_block-n.ensures.1 (with-≤ _ _ _) in (
      omega arith,
      turns-step _ _ _ _ _ c.loop-j.invariant.1 c.coded_block-n.ensures.0,
      total-turn _ _ _ _ c.loop-j.invariant.2 (rw (← c.loop-j.invariant.1) c.coded_block-n.ensures.1),
      omega (arith, h),
    )

pub returns : goal.returns
unfolding row_clipped
returns c =
    let l = c.loop-j in
    let full : l.j ≡ 4 = omega arith in
    (turns-done _ _ _ _ _ l.invariant.1 l.invariant.0 c.loop-j-test.false, rw full at l.invariant.2)
