-- `planes::luma::coded` meets its contract. Assumes nothing.
use Prim.Native.Nat.{◌≤◌}
use mathlib.Core.Path.{◌≡◌, refl}
use native.Mathlib.Omega.{arith}
use Rattle.lists.specs.Lists.{turns, total}
use Rattle.lists.proofs.Turns.{turns-step}
use Rattle.lists.proofs.Total.{total-turn}
use Rattle.planes.proofs.Counts.{run-≤}
use Rattle.planes.proofs.Whole.{luma-coded}
use Rattle.planes.proofs.luma.coded.Goals as goal

pub loop-i-init : goal.loop-i-init
unfolding turns total
loop-i-init c = (omega arith, refl, refl, omega arith)

pub overflow_add-n : goal.overflow_add-n
overflow_add-n c = let h : c.run_clipped-n.result ≤ 64 = rw c.run_clipped-n.ensures (run-≤ _ _ _ _ _) in omega (arith, h)

pub loop-i-preserved : goal.loop-i-preserved
loop-i-preserved c =
    let h : c.run_clipped-n.result ≤ 64 = rw c.run_clipped-n.ensures (run-≤ _ _ _ _ _) in (
      omega arith,
      turns-step _ _ _ _ _ c.loop-i.invariant.1 (rw (c.add_run.ensures, c.residues_of-o.ensures)),
      total-turn _ _ _ _ c.loop-i.invariant.2 (rw (c.run_clipped-n.ensures, c.residues_of-o.ensures)),
      omega (arith, h),
    )

pub returns : goal.returns
returns c =
    let l = c.loop-i in
    let full : l.i ≡ 4 = omega arith in
    luma-coded _ _ _ _ _ c.requires c.seeds-dcs.ensures (rw full at l.invariant.1) (rw full at l.invariant.2)
