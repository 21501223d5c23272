-- `dequant::scale_blocks` meets its contract. Assumes nothing.
use mathlib.Core.Path.{refl, ◌∙◌}
use Prim.Native.Nat.{◌+◌, ◌*◌, ◌≤◌}
use native.Mathlib.Omega.{arith}
use mir.Facts.{to_z-of_z}
use Rattle.lists.specs.Lists.{turns}
use Rattle.lists.proofs.Turns.{turns-step, turns-done}
use Rattle.dequant.specs.Turns.{blocks_scaled}
use borrow.Author.Rules.{rules}
use Rattle.dequant.proofs.scale_blocks.Goals as goal

pub loop-k-init : goal.loop-k-init
unfolding turns
loop-k-init c = (omega arith, refl, refl)

pub scale_block-requires : goal.scale_block-requires
scale_block-requires c =
    let h : (c.args.first + c.loop-k.k) * 16 + 16 ≤ (c.args.first + c.args.count) * 16 = omega arith in
    omega (arith, h, c.loop-k.invariant.1, c.requires)

pub loop-k-preserved : goal.loop-k-preserved
loop-k-preserved c =
    (omega arith, search rules, turns-step c.loop-k.k _ _ c.loop-k.coeffs _ c.loop-k.invariant.2 c.scale_block.ensures)

pub returns : goal.returns
unfolding blocks_scaled
returns c =
    turns-done _ _ _ _ _ c.loop-k.invariant.2 c.loop-k.invariant.0 c.loop-k-test.false
    ∙ rw (to_z-of_z c.ranges.dc, to_z-of_z c.ranges.ac)
