-- RFC 1950: two sums modulo 65521, of the bytes and of the first sum after each byte. The sums are held below 65521 when a byte is added, so that a
-- start of any size is taken.
use Rattle.std.specs.Prelude.{ℕ, ◌+◌, ◌%◌, List, length, get_or}
use Rattle.lists.specs.Lists.{turns}
use Rattle.checksum.specs.declared.Checksum.{Checksum}

abbrev pub begun : Checksum
begun = record { a = 1; b = 0 }

unfoldable pub with_byte : Checksum → ℕ → Checksum
with_byte s byte =
    let a = (s.a % 65521 + byte) % 65521 in
    record { a = a; b = (s.b % 65521 + a) % 65521 }

unfoldable pub with_bytes : Checksum → List ℕ → Checksum
with_bytes s bytes = turns (length bytes) (λ k t. with_byte t (get_or bytes k 0)) s
