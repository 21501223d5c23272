-- One macroblock drawn at its place in the planes of its picture: its neighbours are gathered from the planes as they stand, the walkers make its
-- pixels, and these are put in their place. A refusal of either leaves the planes as they were.
use Rattle.std.specs.Prelude.{ℕ, true, List, eqb, ℤ, Result, Ok, Err}
use Rattle.lists.specs.Lists.{pick, ◌beside◌}
use Rattle.macroblock.specs.Reply.{done, number}
use Rattle.macroblock.specs.declared.reply.Refusal.{Refusal}
use Rattle.gathering.specs.Answers.{gathered}
use Rattle.reconstruct.specs.Answers.{MbAnswer}
use Rattle.drawing.specs.Drawn.{drawn}
use Rattle.canvas.specs.Placed.{placed}

-- three mode bytes, sixteen sub-block bytes, the four pixels above right of the last column, and 400 coefficients
module _ (w h c r luma chroma skip : ℕ) (subs right : List ℕ) (coeffs : List ℤ) (y u v : List ℕ) where
  -- what the walkers make of it
  unfoldable pub made : MbAnswer
  made = drawn luma chroma skip subs true (gathered y u v w h c r right).neighbors coeffs

  -- the reply, beside the three planes
  unfoldable pub drawn_into : ℕ × (List ℕ × (List ℕ × List ℕ))
  drawn_into =
      pick (eqb (gathered y u v w h c r right).reply done)
      (pick (eqb made.reply done)
      (done beside placed 16 w c r made.y y beside placed 8 w c r made.u u beside placed 8 w c r made.v v)
      (made.reply beside y beside u beside v))
      ((gathered y u v w h c r right).reply beside y beside u beside v)

  -- how many sums of it were below 0 or above 255; 0 where it is refused
  unfoldable pub clipped_into : ℕ
  clipped_into = pick (eqb (gathered y u v w h c r right).reply done) made.clipped 0

  -- both
  abbrev pub told_into : (ℕ × (List ℕ × (List ℕ × List ℕ))) × ℕ
  told_into = drawn_into beside clipped_into

-- what the call tells, with the planes that it leaves: the count, or why the macroblock is refused
abbrev pub told : Result ℕ Refusal → List ℕ → List ℕ → List ℕ → (ℕ × (List ℕ × (List ℕ × List ℕ))) × ℕ
told (Ok clipped) y u v = (done beside y beside u beside v) beside clipped
told (Err e) y u v = (number e beside y beside u beside v) beside 0
