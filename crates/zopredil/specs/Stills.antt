-- The answer of a still as one number, the raster index times 256 plus the reply, beside the three planes and the count of sums that were below 0 or above
-- 255. A count's slice of another length than 1 is a slice of another length: 7 comes before it, and nothing is drawn.
use Rattle.std.specs.Prelude.{ℕ, ◌+◌, ◌*◌, List, [], ◌∷◌, ℤ, Result, Ok, Err}
use Rattle.lists.specs.Lists.{pick, sized, ◌beside◌}
use Rattle.macroblock.specs.Reply.{done, wrong_length, outside_picture, number}
use Rattle.still.specs.declared.StillRefusal.{StillRefusal}
use Rattle.still.specs.Picture.{Progress}
use Rattle.still.specs.Answers.{still_told, alone_told}
use Rattle.rfc6386.specs.Picture.{size_ok}

unfoldable pub numbered : Progress × ℕ → ℕ × (List ℕ × (List ℕ × (List ℕ × List ℕ)))
numbered t = (t.0.index * 256 + t.0.reply) beside t.0.y beside t.0.u beside t.0.v beside t.1 ∷ []

unfoldable pub early : ℕ → ℕ → ℕ
early w h = pick (size_ok w h) wrong_length outside_picture

unfoldable pub still_number : ℕ → ℕ → List ℕ → List ℕ → List ℤ → List ℕ → List ℕ → List ℕ → List ℕ → List ℕ → ℕ × (List ℕ × (List ℕ × (List ℕ × List ℕ)))
still_number w h modes subs coeffs right y u v clipped =
    pick (sized 1 clipped) (numbered (still_told w h modes subs coeffs right y u v)) (early w h beside y beside u beside v beside clipped)

unfoldable pub alone_number : ℕ → ℕ → List ℕ → List ℕ → List ℤ → List ℕ → List ℕ → List ℕ → List ℕ → ℕ × (List ℕ × (List ℕ × (List ℕ × List ℕ)))
alone_number w h modes subs coeffs y u v clipped =
    pick (sized 1 clipped) (numbered (alone_told w h modes subs coeffs y u v)) (early w h beside y beside u beside v beside clipped)

-- ---- what a still's answer tells: the number beside the count, and the raster index
abbrev pub number_of : Result ℕ StillRefusal → ℕ × List ℕ
number_of (Ok clipped) = done beside clipped ∷ []
number_of (Err r) = (r.index * 256 + number r.refusal) beside r.clipped ∷ []

abbrev pub index_of : Result ℕ StillRefusal → ℕ
index_of (Ok clipped) = 0
index_of (Err r) = r.index
