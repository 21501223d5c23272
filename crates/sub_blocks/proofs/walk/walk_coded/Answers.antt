-- `sub_blocks::walk::walk_coded` meets its contract. Assumes nothing.
use Prim.Native.Nat.{◌≤◌}
use mathlib.Core.Path.{◌≡◌, refl, ◌∙◌}
use native.Mathlib.Omega.{arith}
use Rattle.lists.specs.Lists.{turns, total}
use Rattle.lists.proofs.Turns.{turns-step, turns-done}
use Rattle.lists.proofs.Total.{total-turn}
use Rattle.sub_blocks.proofs.Walked.{coded-rows}
use Rattle.sub_blocks.proofs.Counts.{row-≤, coded-counts}
use Rattle.sub_blocks.proofs.walk.walk_coded.Goals as goal

pub loop-i-init : goal.loop-i-init
unfolding turns total
loop-i-init c = (omega arith, refl, refl, omega arith)

pub overflow_add-n : goal.overflow_add-n
overflow_add-n c = let h : c.coded_row-n.result ≤ 64 = rw c.coded_row-n.ensures.1 (row-≤ _ _ _ _) in omega (arith, h)

pub loop-i-preserved : goal.loop-i-preserved
loop-i-preserved c =
    let h : c.coded_row-n.result ≤ 64 = rw c.coded_row-n.ensures.1 (row-≤ _ _ _ _) in (
      omega arith,
      turns-step _ _ _ _ _ c.loop-i.invariant.1 (rw (c.coded_row-n.ensures.0, c.residues_of-o.ensures)),
      total-turn _ _ _ _ c.loop-i.invariant.2 (rw (c.coded_row-n.ensures.1, c.residues_of-o.ensures, c.loop-i.invariant.1)),
      omega (arith, h),
    )

pub returns : goal.returns
returns c =
    let l = c.loop-i in
    let full : l.i ≡ 4 = omega arith in (
      turns-done _ _ _ _ _ l.invariant.1 l.invariant.0 c.loop-i-test.false ∙ coded-rows _ _ _,
      (rw full at l.invariant.2) ∙ coded-counts _ _ _,
    )
