-- `whole::wrapping_sub` meets its contract. Assumes nothing.
use mathlib.Core.Path.{◌∙◌, ap}
use mir.Syntax.{w32, w64}
use mir.Facts.{to_z-of_z}
use Rattle.whole.specs.Whole.{wrap}
use Rattle.whole.proofs.Held.{wider, twice, sub64}
use Rattle.whole.proofs.wrapping_sub.Goals as goal

pub overflow_cast-x : goal.overflow_cast-x
overflow_cast-x c = wider c.ranges.x

pub overflow_cast-y : goal.overflow_cast-y
overflow_cast-y c = wider c.ranges.y

pub overflow_sub-x : goal.overflow_sub-x
overflow_sub-x c = rw (twice c.ranges.x, twice c.ranges.y) (sub64 c.args.x c.args.y c.ranges.x c.ranges.y)

pub returns : goal.returns
returns c =
    let f = c.ranges.x in
    let g = c.ranges.y in
    to_z-of_z {w = w32} (record { sfits = c.wrap.type_inv }) ∙ c.wrap.ensures
    ∙ ap wrap (rw (twice f, twice g) (to_z-of_z {w = w64} (sub64 c.args.x c.args.y f g)))
