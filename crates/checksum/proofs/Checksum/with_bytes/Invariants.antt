-- `checksum::Checksum::with_bytes` meets its contract. Assumes nothing.
use mathlib.Core.Path.{◌≡◌}
use lib.ListN.{get_or}
use Rattle.lists.specs.Lists.{turns}
use Rattle.checksum.specs.Adler.{with_byte}
use Rattle.checksum.proofs.Checksum.with_bytes.Given as goal

abbrev pub invariant-loop-byte : goal.invariant-loop-byte
invariant-loop-byte l = l.sum ≡ turns l.byte-index (λ k t. with_byte t (get_or l.bytes k 0)) l.initial.sum
