-- The decoder that RFC 6386 lists in section 7.3: two bytes of `value`, moved up one bit at a time in 32 bits, and `bit_count`, which
-- loads a byte after each eighth shift; a byte past the end counts as 0.
--     start_rfc  init_bool_decoder
--     read_rfc   read_bool
--     ran_rfc    what reads bools, over this decoder
-- It is a second way to say what BoolCoder says: proofs/Windows.antt shows that both read the same.
use Rattle.std.specs.Prelude.{ℕ, zero, suc, ◌+◌, ◌-◌, ◌*◌, ◌%◌, Bool, true, false, List, length, ◌==◌, bit_or, nat_le, nat_lt, slice_index}
use Rattle.lists.specs.Lists.{pick}
use Rattle.bool_decoder.specs.BoolCoder.{split_of, Reads, done, ask}

-- at: the place of `input`; count: the RFC's bit_count
pub record Window : Type 0 where
  pub value : ℕ
  pub range : ℕ
  pub count : ℕ
  pub at : ℕ

abbrev pub window : ℕ → ℕ → ℕ → ℕ → Window
window v r c a = record { value = v; range = r; count = c; at = a }

-- the body of the loop: `value <<= 1; range <<= 1; if (++bit_count == 8) { bit_count = 0; value |= next_byte(); }`
unfoldable pub shifted_rfc : List ℕ → Window → Window
shifted_rfc src w =
    pick (w.count + 1 == 8)
    (window (bit_or (w.value * 2 % 4294967296) (slice_index src w.at)) (w.range * 2) 0 (w.at + 1))
    (window (w.value * 2 % 4294967296) (w.range * 2) (w.count + 1) w.at)

-- `while (range < 128)`, of at most k turns
unfoldable pub normal : ℕ → List ℕ → Window → Window
normal zero src w = w
normal (suc k) src w = pick (nat_lt w.range 128) (normal k src (shifted_rfc src w)) w

pub record Told (A : Type 0) : Type 0 where
  pub got : A
  pub next : Window

-- `SPLIT = split << 8`: 1 where the value reaches it
unfoldable pub read_rfc : List ℕ → ℕ → Window → Told Bool
read_rfc src prob w =
    pick (nat_le (split_of w.range prob * 256) w.value)
    (record { got = true; next = normal 7 src (window (w.value - split_of w.range prob * 256) (w.range - split_of w.range prob) w.count w.at) })
    (record { got = false; next = normal 7 src (window w.value (split_of w.range prob) w.count w.at) })

-- two bytes, the first one high; range 255
unfoldable pub start_rfc : List ℕ → Window
start_rfc src = window (bit_or (slice_index src 0 * 256 % 4294967296) (slice_index src 1)) 255 0 2

-- a byte past the end was loaded
abbrev pub past_rfc : List ℕ → Window → Bool
past_rfc src w = nat_lt (length src) w.at

module _ {A : Type 0} where
  unfoldable pub ran_rfc : List ℕ → Reads A → Window → Told A
  ran_rfc src (done a) w = record { got = a; next = w }
  ran_rfc src (ask p k) w = ran_rfc src (k (read_rfc src p w).got) (read_rfc src p w).next
