-- The answers over slices: a reply, and what each slice that was lent holds then.
use Rattle.std.specs.Prelude.{ℕ, List, [], ◌∷◌, Bool, false, ◌&&◌, eqb, ltb, ℤ, length, get_or, Result, Ok, Err}
use Rattle.lists.specs.Lists.{pick}
use Rattle.macroblock.specs.Reply.{done, number}
use Rattle.macroblock.specs.declared.reply.Refusal.{Refusal}
use Rattle.bool_decoder.specs.BoolCoder.{opened, bit_of}
use Rattle.bool_decoder.specs.State.{state_of}
use Rattle.bool_decoder.specs.declared.state.BoolState.{BoolState}
use Rattle.tokens.specs.Answers.{blank, decoded}
use Rattle.tokens.specs.Answers as tokens
use Rattle.tokens.specs.declared.Macroblock.{Macroblock}

-- a state as four numbers, and back
abbrev pub numbers_of : BoolState → List ℕ
numbers_of s = s.at ∷ s.range ∷ s.value ∷ s.bit_count ∷ []

abbrev pub state_in : List ℕ → BoolState
state_in l = record { at = get_or l 0 0; range = get_or l 1 0; value = get_or l 2 0; bit_count = get_or l 3 0 }

unfoldable pub start_answer : List ℕ → List ℕ → ℕ × List ℕ
start_answer partition state = pick (eqb (length state) 4) (0, numbers_of (state_of partition (opened partition))) (1, state)

-- nine flags as bytes of 0 or 1, and back
unfoldable pub flags_of : List ℕ → List Bool
flags_of l =
    eqb (get_or l 0 0) 1 ∷ eqb (get_or l 1 0) 1 ∷ eqb (get_or l 2 0) 1 ∷ eqb (get_or l 3 0) 1 ∷ eqb (get_or l 4 0) 1 ∷ eqb (get_or l 5 0) 1
    ∷ eqb (get_or l 6 0) 1 ∷ eqb (get_or l 7 0) 1 ∷ eqb (get_or l 8 0) 1 ∷ []

unfoldable pub bytes_of : List Bool → List ℕ
bytes_of f =
    bit_of (get_or f 0 false) ∷ bit_of (get_or f 1 false) ∷ bit_of (get_or f 2 false) ∷ bit_of (get_or f 3 false) ∷ bit_of (get_or f 4 false) ∷ bit_of (get_or f 5 false)
    ∷ bit_of (get_or f 6 false) ∷ bit_of (get_or f 7 false) ∷ bit_of (get_or f 8 false) ∷ []

-- no byte is above 1
unfoldable pub all_flags : List ℕ → Bool
all_flags l =
    ltb (get_or l 0 0) 2 && ltb (get_or l 1 0) 2 && ltb (get_or l 2 0) 2 && ltb (get_or l 3 0) 2 && ltb (get_or l 4 0) 2 && ltb (get_or l 5 0) 2
    && ltb (get_or l 6 0) 2 && ltb (get_or l 7 0) 2 && ltb (get_or l 8 0) 2

-- reply, above, left, state, coefficients
abbrev pub Answer : Type 0
Answer = ℕ × List ℕ × List ℕ × List ℕ × List ℤ

abbrev pub answer : ℕ → List ℕ → List ℕ → List ℕ → List ℤ → Answer
answer r a l s c = (r, a, l, s, c)

unfoldable pub put_answer : tokens.Answer → List ℕ → List ℕ → List ℕ → Answer
put_answer m above left state =
    pick (eqb m.reply 0)
    (answer m.reply (bytes_of m.above) (bytes_of m.left) (numbers_of m.state) m.coeffs)
    (answer m.reply above left state m.coeffs)

-- the same of what `decode_macroblock` answers, told with the contexts and the state that it was handed: a refusal leaves what
-- was lent as it came, but for the coefficients
abbrev pub put_told : Result Macroblock Refusal → List ℕ → List ℕ → List ℕ → Answer
put_told (Ok m) above left state = answer done (bytes_of m.above) (bytes_of m.left) (numbers_of m.state) m.coeffs
put_told (Err e) above left state = answer (number e) above left state blank

unfoldable pub flagged_answer : List ℕ → List ℕ → ℕ → List ℕ → List ℕ → List ℕ → Answer
flagged_answer partition probs y2 above left state =
    pick (ltb y2 2 && all_flags above && all_flags left)
    (put_answer (decoded partition probs (eqb y2 1) (flags_of above) (flags_of left) (state_in state)) above left state)
    (answer 8 above left state blank)

unfoldable pub tokens_answer : List ℕ → List ℕ → ℕ → List ℕ → List ℕ → List ℕ → List ℤ → Answer
tokens_answer partition probs y2 above left state coeffs =
    pick (eqb (length probs) 1056)
    (pick (eqb (length above) 9)
    (pick (eqb (length left) 9)
    (pick (eqb (length state) 4)
    (pick (eqb (length coeffs) 400)
    (flagged_answer partition probs y2 above left state)
    (answer 1 above left state coeffs))
    (answer 1 above left state coeffs))
    (answer 1 above left state coeffs))
    (answer 1 above left state coeffs))
    (answer 1 above left state coeffs)
