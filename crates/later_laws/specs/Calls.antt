-- Two calls of a still, and where their planes are the same.
use Rattle.std.specs.Prelude.{ℕ, suc, ◌<◌, ◌≤◌, ◌≡◌, true, List, ◌⊎◌, ℤ, pos, length, get_or}
use Rattle.macroblock.specs.Reply.{done}
use Rattle.rfc6386.specs.Picture.{size_ok}
use Rattle.walker_laws.specs.Chroma.{luma_of_16x16}
use Rattle.still.specs.Picture.{Progress, first_clipped, right_given, right_read}
use Rattle.still.specs.Answers.{still_fits, alone_fits, still_told, alone_told}
use Rattle.still_laws.specs.Words.{Plane, in_y, side, plane_of, pixel_of, luma_byte, chroma_byte, skip_byte, subs_at, coeffs_at}

-- what a call is given for its macroblocks, and the planes as it finds them
pub record Given : Type 0 where
  pub modes : List ℕ
  pub subs : List ℕ
  pub coeffs : List ℤ
  pub y : List ℕ
  pub u : List ℕ
  pub v : List ℕ

-- ---- macroblock j is given the same: three mode bytes, sixteen sub-block bytes and 400 coefficients
pub record SameAt (a b : Given) (j : ℕ) : Type 0 where
  pub luma : luma_byte a.modes j ≡ luma_byte b.modes j
  pub chroma : chroma_byte a.modes j ≡ chroma_byte b.modes j
  pub skip : skip_byte a.modes j ≡ skip_byte b.modes j
  pub sub-blocks : subs_at a.subs j ≡ subs_at b.subs j
  pub coefficients : coeffs_at a.coeffs j ≡ coeffs_at b.coeffs j

-- every macroblock but k is; the planes may be found equal or not
abbrev pub SameBut : ℕ → Given → Given → Type 0
SameBut k a b = (j : ℕ) → (j ≡ k → ⊥) → SameAt a b j

-- macroblock j is given the same but for its luma coefficients, the first 272 of its 400: Y2 and Y
pub record SameChromaAt (a b : Given) (j : ℕ) : Type 0 where
  pub luma : luma_byte a.modes j ≡ luma_byte b.modes j
  pub chroma : chroma_byte a.modes j ≡ chroma_byte b.modes j
  pub skip : skip_byte a.modes j ≡ skip_byte b.modes j
  pub sub-blocks : subs_at a.subs j ≡ subs_at b.subs j
  pub long : length (coeffs_at a.coeffs j) ≡ length (coeffs_at b.coeffs j)
  pub coefficients : (i : ℕ) → luma_of_16x16 ≤ i → get_or (coeffs_at a.coeffs j) i (pos 0) ≡ get_or (coeffs_at b.coeffs j) i (pos 0)

-- ---- what the two calls answer: the planes, the reply and the index, beside the count
abbrev pub still_of : ℕ → ℕ → List ℕ → Given → Progress × ℕ
still_of w h right a = still_told w h a.modes a.subs a.coeffs right a.y a.u a.v

abbrev pub alone_of : ℕ → ℕ → Given → Progress × ℕ
alone_of w h a = alone_told w h a.modes a.subs a.coeffs a.y a.u a.v

-- the call has drawn its first k macroblocks: it is accepted, or refused at k or later
abbrev pub DrawnTo : ℕ → Progress → Type 0
DrawnTo k d = (d.reply ≡ done) ⊎ (k ≤ d.index)

-- its size and its lengths are accepted
abbrev pub FitsStill : ℕ → ℕ → List ℕ → Given → Type 0
FitsStill w h right a = (size_ok w h ≡ true) × (still_fits w h a.modes a.subs a.coeffs right a.y a.u a.v ≡ true)

abbrev pub FitsAlone : ℕ → ℕ → Given → Type 0
FitsAlone w h a = (size_ok w h ≡ true) × (alone_fits w h a.modes a.subs a.coeffs a.y a.u a.v ≡ true)

-- what it has counted before macroblock k
abbrev pub still_count : ℕ → ℕ → List ℕ → Given → ℕ → ℕ
still_count w h right a k = first_clipped w h a.modes a.subs a.coeffs (right_given right) k a.y a.u a.v

abbrev pub alone_count : ℕ → ℕ → Given → ℕ → ℕ
alone_count w h a k = first_clipped w h a.modes a.subs a.coeffs (right_read w h) k a.y a.u a.v

-- ---- macroblock j has the same pixels in the plane p of two pictures w macroblocks wide
abbrev pub SamePixels : Plane → ℕ → ℕ → Progress → Progress → Type 0
SamePixels p w j d e = (i x : ℕ) → i < side p → x < side p → get_or (plane_of p d) (pixel_of p w j i x) 0 ≡ get_or (plane_of p e) (pixel_of p w j i x) 0

-- ---- places that read one another only, in one plane: with a macroblock, each that it reads. Only luma reads above right
pub record ClosedIn (p : Plane) (P : ℕ → ℕ → Type 0) : Type 0 where
  pub left : (r c : ℕ) → P r (suc c) → P r c
  pub above-left : (r c : ℕ) → P (suc r) (suc c) → P r c
  pub above : (r c : ℕ) → P (suc r) c → P r c
  pub above-right : p ≡ in_y → (r c : ℕ) → P (suc r) c → P r (suc c)
