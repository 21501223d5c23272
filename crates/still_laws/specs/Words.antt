-- The words of the theorems on a still: its three planes at once, the place of a macroblock's pixel, a macroblock at its turn, which
-- macroblocks are finished, and the right-hand pixels that a finished picture shows.
use Rattle.std.specs.Prelude.{ℕ, ◌+◌, ◌-◌, ◌*◌, ◌/◌, ◌%◌, ◌<◌, Bool, true, ◌≡◌, List, ◌⊎◌, eqb, ℤ, length, get_or, take, drop}
use Rattle.lists.specs.Lists.{table, pick, both, within}
use Rattle.macroblock.specs.Reply.{done}
use Rattle.macroblock.specs.declared.modes.MbModes.{MbModes}
use Rattle.macroblock.specs.declared.neighbors.MbNeighbors.{MbNeighbors}
use Rattle.gathering.specs.Answers.{gathered}
use Rattle.drawing.specs.Drawn.{modes_known, modes_of}
use Rattle.reconstruct.specs.Answers.{MbAnswer}
use Rattle.right_pixels.specs.Answers.{last_above}
use Rattle.canvas.specs.Placed.{pixel_at}
use Rattle.canvas.specs.Into.{made}
use Rattle.still.specs.Picture.{Progress, progress}

-- ---- the three planes: a macroblock's side, the plane itself, and a macroblock's pixels in it
pub data Plane : Type 0 where
  in_y in_u in_v : Plane

abbrev pub side : Plane → ℕ
side in_y = 16
side in_u = 8
side in_v = 8

abbrev pub plane_of : Plane → Progress → List ℕ
plane_of in_y d = d.y
plane_of in_u d = d.u
plane_of in_v d = d.v

-- the planes as the call found them
abbrev pub found_in : Plane → List ℕ → List ℕ → List ℕ → List ℕ
found_in p y u v = plane_of p (progress done 0 y u v)

abbrev pub pixels_of : Plane → MbAnswer → List ℕ
pixels_of in_y m = m.y
pixels_of in_u m = m.u
pixels_of in_v m = m.v

-- the place of pixel x of row i of macroblock k, in a picture w macroblocks wide
abbrev pub pixel_of : Plane → ℕ → ℕ → ℕ → ℕ → ℕ
pixel_of p w k i x = pixel_at (side p) w (k % w) (k / w) i x

-- the place q is none of macroblock k's
abbrev pub Outside : Plane → ℕ → ℕ → ℕ → Type 0
Outside p w k q = (i x : ℕ) → i < side p → x < side p → q ≡ pixel_of p w k i x → ⊥

-- ---- macroblock k, over the planes as they stand: its neighbours, its modes, its sub-block bytes and coefficients, and what the walkers make of it
module _ (w h : ℕ) (right : ℕ → List ℕ → List ℕ) where
  unfoldable pub neighbors_at : ℕ → Progress → MbNeighbors
  neighbors_at k d = (gathered d.y d.u d.v w h (k % w) (k / w) (right (k / w) d.y)).neighbors

abbrev pub luma_byte : List ℕ → ℕ → ℕ
luma_byte modes k = get_or modes (3 * k) 0

abbrev pub chroma_byte : List ℕ → ℕ → ℕ
chroma_byte modes k = get_or modes (3 * k + 1) 0

abbrev pub skip_byte : List ℕ → ℕ → ℕ
skip_byte modes k = get_or modes (3 * k + 2) 0

abbrev pub modes_at : List ℕ → ℕ → MbModes
modes_at modes k = modes_of (luma_byte modes k) (chroma_byte modes k) (skip_byte modes k)

abbrev pub subs_at : List ℕ → ℕ → List ℕ
subs_at subs k = take 16 (drop (16 * k) subs)

abbrev pub coeffs_at : List ℤ → ℕ → List ℤ
coeffs_at coeffs k = take 400 (drop (400 * k) coeffs)

-- its bytes are known: the three mode bytes, and in mode B the sixteen sub-block bytes
unfoldable pub bytes_known : List ℕ → List ℕ → ℕ → Bool
bytes_known modes subs k =
    both (modes_known (luma_byte modes k) (chroma_byte modes k) (skip_byte modes k)) (pick (eqb (luma_byte modes k) 4) (within 9 16 (subs_at subs k)) true)

module _ (w h : ℕ) (modes subs : List ℕ) (coeffs : List ℤ) (right : ℕ → List ℕ → List ℕ) where
  unfoldable pub made_at : ℕ → Progress → MbAnswer
  made_at k d =
      made w h (k % w) (k / w) (luma_byte modes k) (chroma_byte modes k) (skip_byte modes k) (subs_at subs k) (right (k / w) d.y)
      (coeffs_at coeffs k) d.y d.u d.v

-- ---- macroblock k of the answer d is finished: all are where d is accepted, and those before its index where it is refused
pub record Finished (w h : ℕ) (d : Progress) (k : ℕ) : Type 0 where
  pub inside : k < w * h
  pub drawn : (d.reply ≡ done) ⊎ (k < d.index)

-- ---- for each macroblock row after the first, four copies of the last pixel of the row above
unfoldable pub rights_of : ℕ → ℕ → List ℕ → List ℕ
rights_of w h y = table (4 * (h - 1)) (λ i. last_above y w (i / 4 + 1))

-- ---- two lists of sub-block bytes agree on the sixteen of each macroblock of luma byte 4, mode B
pub record SameB (w h : ℕ) (modes subs others : List ℕ) : Type 0 where
  pub long : length subs ≡ length others
  pub bytes : (k : ℕ) → k < w * h → luma_byte modes k ≡ 4 → (i : ℕ) → i < 16 → get_or subs (16 * k + i) 0 ≡ get_or others (16 * k + i) 0
