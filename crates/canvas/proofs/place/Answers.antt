-- `canvas::place` meets its contract. Assumes nothing.
use mathlib.Core.Path.{refl}
use native.Mathlib.Omega.{arith}
use Rattle.lists.specs.Lists.{turns}
use Rattle.lists.proofs.Turns.{turns-step, turns-done}
use Rattle.picture_limits.proofs.Bounds.{bounds}
use Rattle.canvas.specs.Placed.{pixel_at, placed_row, placed}
use Rattle.canvas.proofs.Places.{row_at, block_row}
use Rattle.canvas.proofs.place.Goals as goal

pub overflow_mul-stride : goal.overflow_mul-stride
overflow_mul-stride c = let b = bounds c.requires.0 in omega (arith, b.one, b.rows)

pub loop-i-init : goal.loop-i-init
unfolding turns
loop-i-init c = (omega arith, (refl, refl))

pub overflow_mul-n : goal.overflow_mul-n
overflow_mul-n c = let k = row_at c.requires.0 c.loop-i.i c.loop-i-test.true in omega arith

pub overflow_mul-n-in-loop-i : goal.overflow_mul-n-in-loop-i
overflow_mul-n-in-loop-i c = let k = row_at c.requires.0 c.loop-i.i c.loop-i-test.true in omega arith

pub overflow_mul-i : goal.overflow_mul-i
overflow_mul-i c = let k = row_at c.requires.0 c.loop-i.i c.loop-i-test.true in omega arith

pub overflow_add-n : goal.overflow_add-n
overflow_add-n c = let k = row_at c.requires.0 c.loop-i.i c.loop-i-test.true in omega arith

pub overflow_mul-n-in-loop-i-2 : goal.overflow_mul-n-in-loop-i-2
overflow_mul-n-in-loop-i-2 c = let k = row_at c.requires.0 c.loop-i.i c.loop-i-test.true in omega arith

pub overflow_add-n-in-loop-i : goal.overflow_add-n-in-loop-i
overflow_add-n-in-loop-i c = let k = row_at c.requires.0 c.loop-i.i c.loop-i-test.true in omega arith

pub overflow_mul-n-in-loop-i-3 : goal.overflow_mul-n-in-loop-i-3
overflow_mul-n-in-loop-i-3 c =
    let k = block_row c.args.n c.loop-i.i _ c.requires.1 c.loop-i-test.true in
    omega arith

pub place_row-requires : goal.place_row-requires
place_row-requires c =
    let k = row_at c.requires.0 c.loop-i.i c.loop-i-test.true in
    let same = c.loop-i.invariant.1.1 in
    (omega (arith, k.whole, same), block_row c.args.n c.loop-i.i _ c.requires.1 c.loop-i-test.true)

pub loop-i-preserved : goal.loop-i-preserved
unfolding placed_row pixel_at
loop-i-preserved c =
    let inv = c.loop-i.invariant in
    (omega arith, (turns-step _ _ _ _ _ inv.1.0 c.place_row.ensures, omega (arith, c.plane-1.given, inv.1.1)))

pub returns : goal.returns
unfolding placed
returns c = turns-done _ _ _ _ _ c.loop-i.invariant.1.0 c.loop-i.invariant.0 c.loop-i-test.false
