-- `whole::clamp255` meets its contract. Assumes nothing.
use mathlib.Core.Path.{ap}
use mir.Syntax.{w32}
use mir.Val.{to_z, of_z}
use mir.Facts.{to_z-of_z}
use Rattle.whole.specs.Whole.{clamp}
use Rattle.whole.proofs.Clamp.{clamp-byte}
use Rattle.whole.proofs.Held.{held32}
use Rattle.whole.proofs.clamp255.Goals as goal

pub overflow_cast-result : goal.overflow_cast-result
overflow_cast-result c =
    rw (held32 c.within_byte.result c.within_byte.type_inv, c.within_byte.ensures) (tt, record { fits = clamp-byte (to_z w32 (of_z w32 c.args.v)) })

pub returns : goal.returns
returns c = rw (held32 c.within_byte.result c.within_byte.type_inv, c.within_byte.ensures) (ap clamp (to_z-of_z c.ranges.v))
