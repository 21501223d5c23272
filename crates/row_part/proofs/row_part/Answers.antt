-- `row_part::row_part` meets its contract. Where the part is given it lies in the plane, so that no sum wraps. Assumes nothing.
use Prim.Native.Nat.{◌+◌, ◌*◌, ◌≤◌}
use mathlib.Core.Path.{sym, ◌∙◌}
use native.Mathlib.Nat.{add-sub_cancel_left}
use native.Mathlib.Omega.{arith}
use lib.ListN.{length}
use Rattle.rfc6386.specs.Picture.{row_part}
use Rattle.row_part.specs.Start.{part_start}
use Rattle.row_part.proofs.Given.{given-says}
use Rattle.row_part.proofs.row_part.Goals as goal
use Rattle.row_part.proofs.row_part.Goals.{Then-part_given}

room : (c : Then-part_given) → (let a = c.args in a.row * a.stride + a.col + a.count ≤ length a.plane.now)
room c = (given-says _ _ _ _ _ (sym c.part_given.ensures ∙ c.if-part_given.true)).2

pub overflow_mul-at : goal.overflow_mul-at
overflow_mul-at c = omega (arith, room c)

pub overflow_add-at : goal.overflow_add-at
overflow_add-at c = omega (arith, room c)

pub overflow_add-result : goal.overflow_add-result
overflow_add-result c = omega (arith, room c)

pub slice_bounds-result-end : goal.slice_bounds-result-end
slice_bounds-result-end c = omega (arith, room c)

pub returns-then-part_given : goal.returns-then-part_given
unfolding row_part part_start
returns-then-part_given c =
    let e = sym c.part_given.ensures ∙ c.if-part_given.true in
    (rw (e, add-sub_cancel_left), rw e)

pub returns : goal.returns
unfolding row_part part_start
returns c =
    let e = sym c.part_given.ensures ∙ c.if-part_given.false in
    (rw e, rw e)
