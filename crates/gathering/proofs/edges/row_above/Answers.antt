-- `gathering::edges::row_above` meets its contract: inside the picture the plane has the part, and all of it is copied; at its ends the
-- picture's row is read pixel by pixel. Assumes nothing.
use mathlib.Core.Path.{refl, ◌∙◌}
use native.Mathlib.Omega.{arith}
use borrow.Author.Tests.{le-ltb}
use Rattle.rfc6386.specs.Picture.{row_above}
use Rattle.picture_limits.proofs.Bounds.{bounds}
use Rattle.gathering.proofs.Copied.{row-length, border-is, inside-length, inside-is}
use Rattle.slices.proofs.Copied.{or-zeros-fit}
use Rattle.gathering.proofs.edges.row_above.Goals as goal

pub returns-then-row-eq0 : goal.returns-then-row-eq0
unfolding row_above
returns-then-row-eq0 g c = rw (le-ltb 0 c.args.row (omega arith)) refl

pub returns-then-x-stride : goal.returns-then-x-stride
returns-then-x-stride g c =
    let b = c.requires in
    let whole = inside-length b.0 (omega arith) c.if-col-gt0.true _ b.1 (omega arith) _ c.row_part.ensures.0 in
    inside-is b.0 (omega arith) c.if-col-gt0.true _ b.1 c.if-x-stride.true _ c.row_part.ensures.0 _ _ (c.array.ensures ∙ or-zeros-fit _ _ _ whole)

pub border_row-requires : goal.border_row-requires
border_row-requires g c =
    let b = c.requires in
    let u = bounds b.0 in
    let e = row-length b.0 (omega arith) _ c.row_part-pixels.ensures.0 in
    (omega (arith, e, u.column, b.2), omega (arith, e, b.3))

pub returns : goal.returns
returns g c =
    border-is c.requires.0 (omega arith) _ c.row_part-pixels.ensures.0 _ _ _ c.border_row.ensures
