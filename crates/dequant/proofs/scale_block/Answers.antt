-- `dequant::scale_block` meets its contract. Assumes nothing.
use mathlib.Core.Path.{◌≡◌, refl, ◌∙◌}
use Prim.Native.Nat.{◌+◌, ◌*◌}
use native.Mathlib.Omega.{arith}
use borrow.Author.Rules.{rules}
use lib.ListN.{length-set}
use mir.Facts.{to_z-of_z}
use Rattle.lists.specs.Lists.{turns}
use Rattle.lists.proofs.Turns.{turns-step}
use Rattle.whole.proofs.Held.{R16}
use Rattle.dequant.proofs.Blocks.{later, later-turn, block-done}
use Rattle.dequant.proofs.scale_block.Goals as goal
use Rattle.dequant.proofs.scale_block.Goals.{At-loop-i}

pub loop-i-init : goal.loop-i-init
unfolding turns
loop-i-init c = (omega arith, refl, refl)

pub loop-i-preserved : goal.loop-i-preserved
loop-i-preserved c =
    let i = c.loop-i.i in
    let a = c.args in
    let dc = R16 a.dc in
    let ac = R16 a.ac in (
      omega arith,
      length-set c.loop-i.coeffs (a.k * 16 + (1 + i)) (R16 c.dequant-in-loop-i.result) ∙ c.loop-i.invariant.1,
      turns-step i (later dc ac a.k) _ c.loop-i.coeffs _ c.loop-i.invariant.2
          (later-turn dc ac a.k i c.loop-i.coeffs c.dequant-in-loop-i.result c.dequant-in-loop-i.type_inv (search rules) c.dequant-in-loop-i.ensures),
    )

pub returns : goal.returns
returns c =
    let i = c.loop-i in
    let a = c.args in
    let full : i.i ≡ 15 = omega arith in
    block-done (R16 a.dc) (R16 a.ac) a.k a.coeffs.now i.coeffs c.dequant.result c.dequant.type_inv (search rules) c.dequant.ensures
    (rw full at i.invariant.2)
    ∙ rw (to_z-of_z c.ranges.dc, to_z-of_z c.ranges.ac)
