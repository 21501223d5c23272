-- `distance::all_pixels` meets its contract. Assumes nothing.
use Prim.Native.Nat.{◌+◌, ◌/◌}
use mathlib.Core.Path.{◌≡◌}
use native.Mathlib.Omega.{arith}
use lib.ListN.{length}
use Rattle.distance.proofs.Sizes.{start_none, start-turn, start-≤}
use Rattle.distance.proofs.all_pixels.Goals as goal

pub pixels-at-requires : goal.pixels-at-requires
pixels-at-requires c = (omega arith, c.requires.1)

pub overflow_add-at : goal.overflow_add-at
overflow_add-at c =
    omega (arith, start-turn _ c.loop-k.k _ _ c.loop-k.invariant c.pixels-at.ensures, start-≤ c.args.sizes.now c.requires.1 (c.loop-k.k + 1) (omega arith), c.requires.0)

pub loop-k-preserved : goal.loop-k-preserved
loop-k-preserved c =
    let l = c.loop-k in
    start-turn _ l.k _ _ l.invariant c.pixels-at.ensures

pub returns : goal.returns
returns c =
    let l = c.loop-k in
    let full : l.k ≡ length c.args.sizes.now / 2 = omega arith in
    rw full at l.invariant

pub loop-k-init : goal.loop-k-init
loop-k-init c = start_none _
