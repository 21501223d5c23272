-- `sub_blocks::luma_parts` meets its contract. Assumes nothing.
use mathlib.Core.Path.{refl}
use Rattle.rfc6386.specs.Walk.{y_parts}
use Rattle.clipping.specs.Clipped.{y_parts_clipped}
use Rattle.sub_blocks.specs.Parts.{parts_drawn}
use Rattle.sub_blocks.proofs.walk.luma_parts.Goals as goal

pub returns : goal.returns
unfolding parts_drawn y_parts y_parts_clipped
returns c =
    rw (c.luma_of.ensures, c.walk-clipped.ensures.0, c.walk-clipped.ensures.1, c.start-b.ensures) refl
