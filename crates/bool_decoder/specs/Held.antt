-- What the code holds of a Coder: the first `held` bits from its value on, at the top of 64, and the place of the next byte.
use Rattle.std.specs.Prelude.{◌≡◌, ℕ, zero, suc, ◌+◌, ◌-◌, ◌*◌, ◌^◌, ◌<◌, ◌≤◌, Bool, List, length}
use Rattle.bool_decoder.specs.BoolCoder.{Coder, bit_at, read_bool}
use Rattle.bool_decoder.specs.declared.BoolDecoder.{BoolDecoder}

-- n bits of a partition from bit k on, the first one highest
unfoldable pub bits : List ℕ → ℕ → ℕ → ℕ
bits src k zero = 0
bits src k (suc n) = bits src k n * 2 + bit_at src (k + n)

-- a coder's value, and n bits that follow it
unfoldable pub ahead : List ℕ → Coder → ℕ → ℕ
ahead src c n = c.value * 2 ^ n + bits src (c.place + 8) n

pub record Holds (src : List ℕ) (d : BoolDecoder) (c : Coder) : Type 0 where
  pub range : d.range ≡ c.range
  pub high : 127 < c.range
  pub byte : c.range < 256
  pub small : c.value < 256
  pub some : 8 ≤ d.held
  pub few : d.held ≤ 64
  pub value : d.value ≡ ahead src c (d.held - 8) * 2 ^ (64 - d.held)
  pub before : 8 * d.at ≤ c.place + d.held
  pub exact : d.at < length src + 8 → 8 * d.at ≡ c.place + d.held

pub record Ready (src : List ℕ) (d r : BoolDecoder) : Type 0 where
  pub holds : (c : Coder) → Holds src d c → Holds src r c
  pub held : 1 ≤ d.held → 33 ≤ r.held

pub record IsOne (prob : ℕ) (d : BoolDecoder) (r : Bool) : Type 0 where
  pub is : (src : List ℕ) (c : Coder) → Holds src d c → r ≡ (read_bool src prob c).got

-- the decoder r after a bool of d, when the Coder after it is c; by at most so many shifts
pub record Went (src : List ℕ) (d r : BoolDecoder) (most : ℕ) (c : Coder) : Type 0 where
  pub holds : Holds src r c
  pub held : d.held ≤ r.held + most

pub record After (bit : Bool) (prob : ℕ) (d r : BoolDecoder) : Type 0 where
  pub is : (src : List ℕ) (c : Coder) → Holds src d c → 15 ≤ d.held → (read_bool src prob c).got ≡ bit → Went src d r 7 (read_bool src prob c).next

-- a sign, read at probability 128, shifts once at most
pub record Takes (prob : ℕ) (d : BoolDecoder) (r : Bool × BoolDecoder) : Type 0 where
  pub bit : (src : List ℕ) (c : Coder) → Holds src d c → r.0 ≡ (read_bool src prob c).got
  pub next : (src : List ℕ) (c : Coder) → Holds src d c → 15 ≤ d.held → Went src d r.1 7 (read_bool src prob c).next
  pub sign : (src : List ℕ) (c : Coder) → Holds src d c → 9 ≤ d.held → prob ≡ 128 → Went src d r.1 1 (read_bool src prob c).next
