-- `zopredil::stills::early` meets its contract. Assumes nothing.
use mathlib.Core.Path.{refl}
use Rattle.zopredil.specs.Stills.{early}
use Rattle.zopredil.proofs.stills.early.Goals as goal

pub returns-then-size_ok : goal.returns-then-size_ok
unfolding early
returns-then-size_ok c = rw (c.from.ensures, c.number.ensures, ← c.size_ok.ensures, c.if-size_ok.true) refl

pub returns-else-size_ok : goal.returns-else-size_ok
unfolding early
returns-else-size_ok c = rw (c.from-else-size_ok.ensures, c.number-else-size_ok.ensures, ← c.size_ok.ensures, c.if-size_ok.false) refl
