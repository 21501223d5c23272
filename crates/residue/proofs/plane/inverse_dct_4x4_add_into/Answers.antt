-- `residue::plane::inverse_dct_4x4_add_into` meets its contract: each way lends on the part of the plane that starts at the block. Assumes nothing.
use mathlib.Core.Bool.{true}
use mathlib.Core.Path.{◌≡◌, sym, ◌∙◌}
use native.Mathlib.Omega.{arith}
use lib.ListN.{length, length-drop}
use Rattle.lists.proofs.Parts.{tail-whole}
use Rattle.rfc6386.specs.Residue.{lies}
use Rattle.residue.proofs.AcFree.{dc-way}
use Rattle.residue.proofs.Answers.{into-given, into-refused}
use Rattle.residue.proofs.Geometry.{Room, lies-room}
use Rattle.residue.proofs.Part.{added-back}
use Rattle.residue.proofs.Counted.{counted_back}
use Rattle.residue.proofs.plane.inverse_dct_4x4_add_into.Goals as goal
use Rattle.residue.proofs.plane.inverse_dct_4x4_add_into.Goals.{Then-block_lies}

-- past the test the block lies in the plane, and there is room for its first pixel and its rows
inside : (c : Then-block_lies)
    → let x = c.args in lies (length x.plane.now) x.stride x.sub_row x.sub_col ≡ true
inside c = sym c.block_lies.ensures ∙ c.if-block_lies.true

room : (c : Then-block_lies) → let x = c.args in Room (length x.plane.now) x.stride x.sub_row x.sub_col
room c = lies-room _ _ _ _ (inside c)

pub add_counted-clipped-requires : goal.add_counted-clipped-requires
add_counted-clipped-requires c = let h = room (goal.at.add_counted-clipped-requires c).Then-block_lies in rw (tail-whole, length-drop) (omega arith)

pub add_counted-clipped-requires-then-block_lies : goal.add_counted-clipped-requires-then-block_lies
add_counted-clipped-requires-then-block_lies c = let h = room (goal.at.add_counted-clipped-requires-then-block_lies c).Then-block_lies in rw (tail-whole, length-drop) (omega arith)

pub returns-then-ac_free : goal.returns-then-ac_free
returns-then-ac_free c =
    let x = c.args in
    let h = room (goal.at.returns-then-ac_free c).Then-block_lies in
    let res = c.dc_only.result in
    into-given x.input x.stride x.sub_row x.sub_col x.plane.now res _ _ (inside (goal.at.returns-then-ac_free c).Then-block_lies)
    (dc-way x.input _ (sym c.ac_free.ensures ∙ c.if-ac_free.true) c.dc_only-arg-1.given c.dc_only.ensures)
    (added-back x.stride res _ x.plane.now _ (omega arith) c.add_counted-clipped.ensures.1)
    (c.add_counted-clipped.ensures.0 ∙ counted_back x.stride res _ x.plane.now)

pub returns-then-block_lies : goal.returns-then-block_lies
returns-then-block_lies c =
    let x = c.args in
    let h = room (goal.at.returns-then-block_lies c).Then-block_lies in
    let res = c.inverse_dct_4x4.result in
    into-given x.input x.stride x.sub_row x.sub_col x.plane.now res _ _ (inside (goal.at.returns-then-block_lies c).Then-block_lies)
    c.inverse_dct_4x4.ensures
    (added-back x.stride res _ x.plane.now _ (omega arith) c.add_counted-clipped-then-block_lies.ensures.1)
    (c.add_counted-clipped-then-block_lies.ensures.0 ∙ counted_back x.stride res _ x.plane.now)

pub returns : goal.returns
returns c =
    let x = c.args in
    into-refused x.input x.stride x.sub_row x.sub_col x.plane.now (sym c.block_lies.ensures ∙ c.if-block_lies.false)

pub overflow_mul-at : goal.overflow_mul-at
overflow_mul-at c = omega (arith, room c)

pub overflow_mul-at-then-block_lies : goal.overflow_mul-at-then-block_lies
overflow_mul-at-then-block_lies c = omega (arith, room c)

pub overflow_mul-at-then-block_lies-2 : goal.overflow_mul-at-then-block_lies-2
overflow_mul-at-then-block_lies-2 c = omega (arith, room c)

pub overflow_add-at : goal.overflow_add-at
overflow_add-at c = omega (arith, room c)

pub slice_bounds-add_counted-count : goal.slice_bounds-add_counted-count
slice_bounds-add_counted-count c = omega (arith, room (goal.at.slice_bounds-add_counted-count c).Then-block_lies)

pub slice_bounds-add_counted-start : goal.slice_bounds-add_counted-start
slice_bounds-add_counted-start c = omega (arith, room (goal.at.slice_bounds-add_counted-start c).Then-block_lies)

pub slice_bounds-add_counted-count-then-block_lies : goal.slice_bounds-add_counted-count-then-block_lies
slice_bounds-add_counted-count-then-block_lies c = omega (arith, room (goal.at.slice_bounds-add_counted-count-then-block_lies c).Then-block_lies)

pub slice_bounds-add_counted-start-then-block_lies : goal.slice_bounds-add_counted-start-then-block_lies
slice_bounds-add_counted-start-then-block_lies c = omega (arith, room (goal.at.slice_bounds-add_counted-start-then-block_lies c).Then-block_lies)
