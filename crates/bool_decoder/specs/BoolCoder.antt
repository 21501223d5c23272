-- RFC 6386, section 7: the bool decoder, one bit of the partition at a time.
--     opened     the decoder at the start of a partition
--     read_bool   one bool, and the decoder after it
--     past       whether the RFC's own loading has passed the partition's end
--     Reads      what reads bools and ends with a value: which probability comes next depends on the bools so far
--     ran        its value, and the decoder after it
-- The RFC keeps two bytes of the partition and loads a byte after each eighth shift; the second byte changes no bool before it is
-- shifted up. Here only the eight bits are kept that are compared with the split, and a shift brings in the next bit.
use Rattle.std.specs.Prelude.{ℕ, zero, suc, ◌+◌, ◌-◌, ◌*◌, ◌/◌, ◌%◌, ◌^◌, Bool, true, false, List, length, nat_le, nat_lt, slice_index}
use Rattle.lists.specs.Lists.{pick}

-- value   the eight bits that are compared with the split
-- range   128 to 255 between two bools
-- place   the bits shifted out so far
pub record Coder : Type 0 where
  pub value : ℕ
  pub range : ℕ
  pub place : ℕ

-- a value, and the decoder after it
pub record Got (A : Type 0) : Type 0 where
  pub got : A
  pub next : Coder

-- bit k of a partition, the highest of its first byte being bit 0; a byte past the end is 0
unfoldable pub bit_at : List ℕ → ℕ → ℕ
bit_at src k = slice_index src (k / 8) / 2 ^ (7 - k % 8) % 2

unfoldable pub opened : List ℕ → Coder
opened src = record { value = slice_index src 0; range = 255; place = 0 }

-- `split = 1 + (((range - 1) * probability) >> 8)`
abbrev pub split_of : ℕ → ℕ → ℕ
split_of range prob = 1 + (range - 1) * prob / 256

-- `value <<= 1; range <<= 1`. The value has eight bits: what is shifted above them is lost. No encoder writes a partition in
-- which a bit is lost, for the value lies below the range; one that starts with byte 255 is read so
abbrev pub shifted : List ℕ → Coder → Coder
shifted src c =
    record { value = c.value * 2 % 256 + bit_at src (c.place + 8); range = c.range * 2; place = c.place + 1 }

-- `while (range < 128)`, of at most k turns
unfoldable pub renewed : ℕ → List ℕ → Coder → Coder
renewed zero src c = c
renewed (suc k) src c = pick (nat_lt c.range 128) (renewed k src (shifted src c)) c

-- what is left of the value and the range above the split, and below it
abbrev pub upper : ℕ → Coder → Coder
upper prob c =
    record { value = c.value - split_of c.range prob; range = c.range - split_of c.range prob; place = c.place }

abbrev pub lower : ℕ → Coder → Coder
lower prob c = record { value = c.value; range = split_of c.range prob; place = c.place }

-- one bool: 1 where the value reaches the split
unfoldable pub read_bool : List ℕ → ℕ → Coder → Got Bool
read_bool src prob c =
    pick (nat_le (split_of c.range prob) c.value)
    (record { got = true; next = renewed 7 src (upper prob c) })
    (record { got = false; next = renewed 7 src (lower prob c) })

-- the bytes that the RFC has loaded: two at the start, and one more after each eighth shift
abbrev pub loaded : Coder → ℕ
loaded c = 2 + c.place / 8

abbrev pub past : List ℕ → Coder → Bool
past src c = nat_lt (length src) (loaded c)

pub data Reads (A : Type 0) : Type 0 where
  done : A → Reads A
  ask : ℕ → (Bool → Reads A) → Reads A

module _ {A : Type 0} where
  unfoldable pub ran : List ℕ → Reads A → Coder → Got A
  ran src (done a) c = record { got = a; next = c }
  ran src (ask p k) c = ran src (k (read_bool src p c).got) (read_bool src p c).next

module _ {A B : Type 0} where
  -- first m, then what its value gives
  infixr 5 ◌then◌
  unfoldable pub ◌then◌ : Reads A → (A → Reads B) → Reads B
  done a then f = f a
  ask p k then f = ask p (λ b. k b then f)

abbrev pub bit_of : Bool → ℕ
bit_of true = 1
bit_of false = 0
