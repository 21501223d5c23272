-- The contracts of the private functions: split, shifts, and bytes read ahead.
use Rattle.std.specs.Prelude.{◌≡◌, ℕ, ◌+◌, ◌-◌, ◌*◌, ◌%◌, ◌^◌, ◌<◌, ◌≤◌, List, slice_index}
use Rattle.bool_decoder.specs.BoolCoder.{Coder, split_of}
use Rattle.bool_decoder.specs.Held.{Holds}
use Rattle.bool_decoder.specs.declared.BoolDecoder.{BoolDecoder}

-- r shifts bring the range to 128 or more, and not above 255
pub record Shifts (range r : ℕ) : Type 0 where
  pub few : r < 8
  pub high : 127 < range * 2 ^ r
  pub byte : range * 2 ^ r < 256

pub record Splits (range prob r : ℕ) : Type 0 where
  pub is : r ≡ split_of range prob
  pub some : 0 < r
  pub below : r < range

pub record Split (range prob r : ℕ) : Type 0 where
  pub is : 127 < range → range < 256 → Splits range prob r

pub record Shift (range r : ℕ) : Type 0 where
  pub few : r < 8
  pub is : 0 < range → range < 256 → Shifts range r

-- all shifts at once
pub record Renews (v x h a : ℕ) (r : BoolDecoder) : Type 0 where
  pub by : ℕ
  pub few : by < 8
  pub shifts : 0 < x → x < 256 → Shifts x by
  pub range : 0 < x → x < 256 → r.range ≡ x * 2 ^ by
  pub value : r.value ≡ v * 2 ^ by % 18446744073709551616
  pub held : by ≤ h → r.held ≡ h - by
  pub at : r.at ≡ a

-- the four bytes from `at` on, the first one highest
abbrev pub four_of : List ℕ → ℕ → ℕ
four_of src at = slice_index src at * 16777216 + slice_index src (at + 1) * 65536 + slice_index src (at + 2) * 256 + slice_index src (at + 3)

pub record Loads (src : List ℕ) (d r : BoolDecoder) : Type 0 where
  pub holds : (c : Coder) → Holds src d c → Holds src r c
  pub held : r.held ≡ d.held + 32
