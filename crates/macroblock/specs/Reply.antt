-- The numbers of the replies; 6 is not used.
use Rattle.std.specs.Prelude.{ℕ, List, [], ◌∷◌, Result, Ok, Err}
use Rattle.macroblock.specs.declared.reply.Refusal.{Refusal}
use Rattle.macroblock.specs.declared.reply.Refusal.TheVariants as refusal

-- the result
abbrev pub done : ℕ
done = 0

-- a lent slice has the wrong length
abbrev pub wrong_length : ℕ
wrong_length = 1

-- a 4x4 block does not lie in its plane
abbrev pub outside_plane : ℕ
outside_plane = 2

-- luma mode B where a 16x16 mode is wanted
abbrev pub b_pred : ℕ
b_pred = 3

-- no sub-block modes where mode B wants them
abbrev pub no_sub_modes : ℕ
no_sub_modes = 4

-- a sum of quantiser indices is outside signed 32 bits
abbrev pub index_sum : ℕ
index_sum = 5

-- the picture's size or the macroblock's place is outside its limits
abbrev pub outside_picture : ℕ
outside_picture = 7

-- a byte is no mode's number
abbrev pub unknown_byte : ℕ
unknown_byte = 8

-- the bool decoder needs a byte past the end of its partition
abbrev pub past_end : ℕ
past_end = 9

-- a token probability is 0
abbrev pub no_probability : ℕ
no_probability = 10

-- a filter level is above 63, or a sharpness above 7
abbrev pub outside_levels : ℕ
outside_levels = 11

-- more stills than 4,096 in one list
abbrev pub too_many_stills : ℕ
too_many_stills = 12

-- ---- the number of a refusal
abbrev pub number : Refusal → ℕ
number refusal.WrongLength = wrong_length
number refusal.OutsidePlane = outside_plane
number refusal.BPred = b_pred
number refusal.NoSubModes = no_sub_modes
number refusal.IndexSum = index_sum
number refusal.OutsidePicture = outside_picture
number refusal.UnknownByte = unknown_byte
number refusal.PastEnd = past_end
number refusal.NoProbability = no_probability
number refusal.OutsideLevels = outside_levels
number refusal.TooManyStills = too_many_stills

-- ---- what a call answers: the number of its reply, and its value, or another where it is refused
abbrev pub reply_of : {A : Type 0} → Result A Refusal → ℕ
reply_of (Ok a) = done
reply_of (Err e) = number e

abbrev pub value_or : {A : Type 0} → A → Result A Refusal → A
value_or other (Ok a) = a
value_or other (Err e) = other

-- those of the pictures, in order
unfoldable pub replies : List ℕ
replies = done ∷ wrong_length ∷ outside_plane ∷ b_pred ∷ no_sub_modes ∷ index_sum ∷ outside_picture ∷ unknown_byte ∷ outside_levels ∷ []
