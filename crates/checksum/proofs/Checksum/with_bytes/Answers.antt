-- `checksum::Checksum::with_bytes` meets its contract. Assumes nothing.
use mathlib.Core.Path.{refl}
use Rattle.lists.specs.Lists.{turns}
use Rattle.lists.proofs.Turns.{turns-step, turns-done}
use Rattle.checksum.specs.Adler.{with_bytes}
use Rattle.checksum.proofs.Checksum.with_bytes.Goals as goal

pub loop-byte-init : goal.loop-byte-init
unfolding turns
loop-byte-init c = refl

pub loop-byte-preserved : goal.loop-byte-preserved
loop-byte-preserved c = turns-step _ _ _ _ _ c.loop-byte.invariant c.with_byte-sum.ensures

pub returns : goal.returns
unfolding with_bytes
returns c = let l = c.loop-byte in turns-done _ _ _ _ _ l.invariant l.auto.byte-index-end c.loop-byte-test.false
