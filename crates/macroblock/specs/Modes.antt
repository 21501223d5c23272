-- The numbers of the modes, from 0 in the order of the enums, and what a byte says.
-- An answer about a byte is read as a number of the replies beside a mode: 0 and the mode that the byte numbers, or 8 and the
-- first mode where it numbers none.
use Rattle.std.specs.Prelude.{ℕ, List, [], ◌∷◌, ltb, get_or, length, Result, Ok, Err}
use Rattle.lists.specs.Lists.{pick}
use Rattle.macroblock.specs.Reply.{done, unknown_byte, number}
use Rattle.macroblock.specs.declared.reply.Refusal.{Refusal}
use Rattle.macroblock.specs.declared.modes.IntraYMode.{IntraYMode}
use Rattle.macroblock.specs.declared.modes.IntraYMode.TheVariants as y
use Rattle.macroblock.specs.declared.modes.IntraUvMode.{IntraUvMode}
use Rattle.macroblock.specs.declared.modes.IntraUvMode.TheVariants as uv
use Rattle.macroblock.specs.declared.modes.IntraBmode.{IntraBmode}
use Rattle.macroblock.specs.declared.modes.IntraBmode.TheVariants as b

-- ---- the number of a mode
abbrev pub y_number : IntraYMode → ℕ
y_number y.Dc = 0
y_number y.«V» = 1
y_number y.H = 2
y_number y.Tm = 3
y_number y.B = 4

abbrev pub uv_number : IntraUvMode → ℕ
uv_number uv.Dc = 0
uv_number uv.«V» = 1
uv_number uv.H = 2
uv_number uv.Tm = 3

abbrev pub b_number : IntraBmode → ℕ
b_number b.Dc = 0
b_number b.Tm = 1
b_number b.Ve = 2
b_number b.He = 3
b_number b.Ld = 4
b_number b.Rd = 5
b_number b.Vr = 6
b_number b.Vl = 7
b_number b.Hd = 8
b_number b.Hu = 9

-- ---- what an answer says: the number of the reply, and the mode, or the first one where it is refused
abbrev pub y_answer : Result IntraYMode Refusal → ℕ × IntraYMode
y_answer (Ok m) = (done, m)
y_answer (Err e) = (number e, y.Dc)

abbrev pub uv_answer : Result IntraUvMode Refusal → ℕ × IntraUvMode
uv_answer (Ok m) = (done, m)
uv_answer (Err e) = (number e, uv.Dc)

abbrev pub b_answer : Result IntraBmode Refusal → ℕ × IntraBmode
b_answer (Ok m) = (done, m)
b_answer (Err e) = (number e, b.Dc)

-- ---- what a byte says: the mode at its place of the list, or the first mode beside 8 where the list has no such place
unfoldable pub mode_at : {A : Type 0} → A → List A → ℕ → ℕ × A
mode_at first others byte = pick (ltb byte (length (first ∷ others))) (done, get_or (first ∷ others) byte first) (unknown_byte, first)

unfoldable pub y_mode_at : ℕ → ℕ × IntraYMode
y_mode_at byte = mode_at y.Dc (y.«V» ∷ y.H ∷ y.Tm ∷ y.B ∷ []) byte

unfoldable pub uv_mode_at : ℕ → ℕ × IntraUvMode
uv_mode_at byte = mode_at uv.Dc (uv.«V» ∷ uv.H ∷ uv.Tm ∷ []) byte

unfoldable pub b_mode_at : ℕ → ℕ × IntraBmode
b_mode_at byte = mode_at b.Dc (b.Tm ∷ b.Ve ∷ b.He ∷ b.Ld ∷ b.Rd ∷ b.Vr ∷ b.Vl ∷ b.Hd ∷ b.Hu ∷ []) byte
