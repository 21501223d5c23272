-- `whole::wrap` meets its contract. Assumes nothing.
use mir.Syntax.{w64}
use mir.Facts.{to_z-of_z, sfits_widen}
use Rattle.whole.proofs.Modulo.{shifted32, in32}
use Rattle.whole.proofs.wrap.Goals as goal

pub overflow_cast-result : goal.overflow_cast-result
overflow_cast-result c = rw (shifted32 c.args.x c.ranges.x, to_z-of_z {w = w64} (sfits_widen tt (in32 c.args.x))) (in32 c.args.x)

pub returns : goal.returns
returns c = rw (shifted32 c.args.x c.ranges.x, to_z-of_z {w = w64} (sfits_widen tt (in32 c.args.x))) (to_z-of_z (in32 c.args.x))
