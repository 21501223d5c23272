-- `checksum::Checksum::with_byte` meets its contract. Assumes nothing.
use mathlib.Core.Path.{refl}
use Rattle.checksum.specs.Adler.{with_byte}
use Rattle.checksum.proofs.Checksum.with_byte.Goals as goal

pub returns : goal.returns
unfolding with_byte
returns c = rw c.from.ensures refl
