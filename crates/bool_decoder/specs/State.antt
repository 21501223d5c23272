-- The decoder between two calls, as RFC 6386, 7.3, keeps it.
--     state_of    the RFC's four numbers of a Coder
--     coder_of    and back
--     stands_of   whether a start or a read of this partition can have left a state, without passing the end
use Rattle.std.specs.Prelude.{◌≡◌, ℕ, ◌+◌, ◌-◌, ◌*◌, ◌/◌, ◌%◌, ◌^◌, ◌<◌, Bool, true, false, ◌&&◌, ◌||◌, List, length, ◌==◌, nat_le, nat_lt, slice_index}
use Rattle.lists.specs.Lists.{pick}
use Rattle.bool_decoder.specs.BoolCoder.{Coder, past, loaded}
use Rattle.bool_decoder.specs.Held.{Holds}
use Rattle.bool_decoder.specs.declared.BoolDecoder.{BoolDecoder}
use Rattle.bool_decoder.specs.declared.state.BoolState.{BoolState}

-- what a byte shows below the eight bits that are compared, when so many of its bits are shifted out
abbrev pub shown_of : ℕ → ℕ → ℕ
shown_of byte count = byte * 2 ^ count % 256

-- `input`, as a place in the partition; `range`; `value`; `bit_count`
unfoldable pub state_of : List ℕ → Coder → BoolState
state_of src c =
    record {
      at = loaded c;
      range = c.range;
      value = c.value * 256 + shown_of (slice_index src (1 + c.place / 8)) (c.place % 8);
      bit_count = c.place % 8;
    }

unfoldable pub coder_of : BoolState → Coder
coder_of s = record { value = s.value / 256; range = s.range; place = 8 * (s.at - 2) + s.bit_count }

abbrev pub in_range : BoolState → Bool
in_range s = nat_le 128 s.range && nat_le s.range 255 && nat_le s.bit_count 7 && nat_le s.value 65535

-- the value's second byte is what is left of the byte before the place; its first byte lies below the range, but where the
-- partition starts with 255
unfoldable pub stands_of : List ℕ → BoolState → Bool
stands_of src s =
    pick (nat_lt s.at 2) false
    (pick (nat_lt (length src) s.at) false
    (in_range s && s.value % 256 == slice_index src (s.at - 1) * 2 ^ (s.bit_count % 8) % 256
    && (nat_lt (s.value / 256) s.range || slice_index src 0 == 255)))

pub record Resumes (s : BoolState) (r : BoolDecoder) : Type 0 where
  pub is : (src : List ℕ) → ((i : ℕ) → slice_index src i < 256) → stands_of src s ≡ true → Holds src r (coder_of s)

pub record Saves (src : List ℕ) (d : BoolDecoder) (r : BoolState) : Type 0 where
  pub is : (c : Coder) → Holds src d c → past src c ≡ false → r ≡ state_of src c
  pub over : (c : Coder) → Holds src d c → past src c ≡ true → length src < r.at
