-- A still: the macroblocks of a picture drawn one after another, in raster order, into its three planes. The first macroblock that is refused ends the
-- drawing: its reply and its raster index are kept, with the planes as the finished ones left them.
use Rattle.std.specs.Prelude.{ℕ, ◌+◌, ◌-◌, ◌*◌, ◌/◌, ◌%◌, Bool, true, false, List, [], eqb, ℤ, get_or, take, drop, replicate, Option, Some, None}
use denote.Bor.{Bor}
use Rattle.lists.specs.Lists.{turns, pick, item_of, ◌beside◌, total}
use Rattle.macroblock.specs.Reply.{done}
use Rattle.canvas.specs.Into.{drawn_into, clipped_into}
use Rattle.right_pixels.specs.Answers.{right_pixels}

-- the planes, beside a reply and the raster index of the refused macroblock, 0 where none is
pub record Progress : Type 0 where
  pub reply : ℕ
  pub index : ℕ
  pub y : List ℕ
  pub u : List ℕ
  pub v : List ℕ

abbrev pub progress : ℕ → ℕ → List ℕ → List ℕ → List ℕ → Progress
progress reply index y u v = record { reply = reply; index = index; y = y; u = u; v = v }

-- what is drawn: for each macroblock three mode bytes, sixteen sub-block bytes and 400 coefficients; `right r y` are the four pixels above right of the
-- last column of macroblock row r, y being the luma plane as it stands
module _ (w h : ℕ) (modes subs : List ℕ) (coeffs : List ℤ) (right : ℕ → List ℕ → List ℕ) where
  -- macroblock k, the planes y, u, v as they stand
  unfoldable pub drawn_at : ℕ → List ℕ → List ℕ → List ℕ → ℕ × (List ℕ × (List ℕ × List ℕ))
  drawn_at k y u v =
      drawn_into w h (k % w) (k / w) (get_or modes (3 * k) 0) (get_or modes (3 * k + 1) 0) (get_or modes (3 * k + 2) 0)
      (item_of 16 k subs) (right (k / w) y) (item_of 400 k coeffs) y u v

  -- a turn of the drawing
  unfoldable pub turn : ℕ → Progress → Progress
  turn k d =
      let t = drawn_at k d.y d.u d.v in
      pick (eqb d.reply done) (progress t.0 (pick (eqb t.0 done) 0 k) t.1.0 t.1.1.0 t.1.1.1) d

  -- the first n macroblocks
  unfoldable pub first : ℕ → List ℕ → List ℕ → List ℕ → Progress
  first n y u v = turns n turn (progress done 0 y u v)

  -- the picture
  unfoldable pub picture : List ℕ → List ℕ → List ℕ → Progress
  picture y u v = first (w * h) y u v

  -- ---- how many sums were below 0 or above 255: of macroblock k, the planes as they stand; 0 once the drawing has ended; of the first n; of the picture
  unfoldable pub count_at : ℕ → List ℕ → List ℕ → List ℕ → ℕ
  count_at k y u v =
      clipped_into w h (k % w) (k / w) (get_or modes (3 * k) 0) (get_or modes (3 * k + 1) 0) (get_or modes (3 * k + 2) 0)
      (item_of 16 k subs) (right (k / w) y) (item_of 400 k coeffs) y u v

  unfoldable pub count_in : ℕ → Progress → ℕ
  count_in k d = pick (eqb d.reply done) (count_at k d.y d.u d.v) 0

  unfoldable pub first_clipped : ℕ → List ℕ → List ℕ → List ℕ → ℕ
  first_clipped n y u v = total n λ k. count_in k (first k y u v)

  unfoldable pub picture_clipped : List ℕ → List ℕ → List ℕ → ℕ
  picture_clipped y u v = first_clipped (w * h) y u v

  -- ---- both: of macroblock k; of the picture
  abbrev pub told_at : ℕ → List ℕ → List ℕ → List ℕ → (ℕ × (List ℕ × (List ℕ × List ℕ))) × ℕ
  told_at k y u v = drawn_at k y u v beside count_at k y u v

  abbrev pub drawing : List ℕ → List ℕ → List ℕ → Progress × ℕ
  drawing y u v = picture y u v beside picture_clipped y u v

-- ---- where the right-hand pixels come from
-- given: four for each macroblock row after the first
unfoldable pub right_at : List ℕ → ℕ → List ℕ
right_at right r = pick (eqb r 0) (replicate 4 0) (take 4 (drop (4 * (r - 1)) right))

unfoldable pub right_given : List ℕ → ℕ → List ℕ → List ℕ
right_given right r y = right_at right r

-- read from the luma plane as it stands, by the rule of `right_pixels`
unfoldable pub right_read : ℕ → ℕ → ℕ → List ℕ → List ℕ
right_read w h r y = (right_pixels y w h r).pixels

-- read for a still that comes alone, else given
unfoldable pub right_from : ℕ → ℕ → Bool → List ℕ → ℕ → List ℕ → List ℕ
right_from w h alone right = pick alone (right_read w h) (right_given right)

-- the right-hand pixels as the code is handed them: some, or none for a still that comes alone
abbrev pub comes_alone : Option (Bor (List ℕ)) → Bool
comes_alone (Some right) = false
comes_alone None = true

abbrev pub pixels_given : Option (Bor (List ℕ)) → List ℕ
pixels_given (Some right) = right.now
pixels_given None = []
