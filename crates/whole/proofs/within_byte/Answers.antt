-- `whole::within_byte` meets its contract. Assumes nothing.
use mathlib.Core.Path.{ap, ◌∙◌}
use lib.IntN.{ℤ, pos}
use mir.Syntax.{w32}
use mir.Facts.{to_z-of_z}
use Rattle.std.specs.Int.{int_max, int_min}
use Rattle.whole.proofs.Clamp.{clamp-is}
use Rattle.whole.proofs.within_byte.Goals as goal

pub returns : goal.returns
returns c =
    to_z-of_z {w = w32} (record { sfits = c.clamp.type_inv }) ∙ c.clamp.ensures.value
    ∙ ap (λ (z : ℤ). int_max (pos 0) (int_min z (pos 255))) (to_z-of_z c.ranges.v) ∙ clamp-is c.args.v
