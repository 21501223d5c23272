-- A still drawn alone is, in its whole answer (`alone-told-is-given`), the still given exactly the right-hand pixels that its own finished luma plane shows: for each macroblock row after the first four
-- copies of the last pixel of the row above. The rows above a macroblock's are finished when its turn comes, and no later turn writes there.
-- Assumes nothing.
use Prim.Native.Nat.{ℕ, zero, suc, ◌+◌, ◌-◌, ◌*◌, ◌/◌, ◌%◌, ◌<◌, ◌≤◌}
use mathlib.Core.Bool.{Bool, true, false}
use mathlib.Core.Path.{◌≡◌, refl, sym, ap, ◌∙◌}
use mathlib.Core.List.{List, []}
use mathlib.Core.Logic.{⊎_elim}
use native.Mathlib.Nat.{eq-zero-or-pos, le_of_lt}
use native.Mathlib.Omega.{arith}
use borrow.Author.Tests.{eq-eqb, ne_eqb}
use lib.IntN.{ℤ}
use lib.ListN.{length, take, drop, replicate, length-drop, get_or-replicate}
use lib.Seq.{length-take-le, get_or-take, get_or-drop, ext_get_or}
use Rattle.lists.specs.Lists.{table, turns}
use Rattle.lists.proofs.Table.{table-length, table_at}
use Rattle.picture_limits.proofs.Accepted.{Within}
use Rattle.right_pixels.specs.Answers.{RightPixels, last_above, right_pixels}
use Rattle.right_pixels.proofs.Copies.{last-of-sixteen, row-refused, copies}
use Rattle.still.specs.Picture.{Progress, drawn_at, turn, first, picture, count_at, count_in, first_clipped, picture_clipped, right_at, right_given, right_read}
use Rattle.lists.proofs.Total.{total_ext}
use Rattle.still.specs.Answers.{alone_fits, still_answer, alone_answer, still_clipped, alone_clipped, still_told, alone_told}
use Rattle.rfc6386.specs.Picture.{size_ok}
use Rattle.still.proofs.Sizes.{size-says, row_within}
use Rattle.still_laws.specs.Words.{in_y, rights_of}
use Rattle.still_laws.proofs.Digits.{pixel-from, rows-rise}
use Rattle.still_laws.proofs.First.{first-length, first-kept}
use Rattle.still_laws.proofs.Answered.{accepted-lengths}

-- ---- the right-hand pixels of a row
pub given-first : (right y : List ℕ) → right_given right 0 y ≡ replicate 4 0
unfolding right_given right_at
given-first right y = refl

pub given-later : (right y : List ℕ) (r : ℕ) → 1 ≤ r → right_given right r y ≡ take 4 (drop (4 * (r - 1)) right)
unfolding right_given right_at
given-later right y r l = rw (ne_eqb r 0 (λ e. omega arith))

pub read_first : (w h : ℕ) (y : List ℕ) → right_read w h 0 y ≡ replicate 4 0
unfolding right_read
read_first w h y = ap (λ (p : RightPixels). p.pixels) (row-refused y w h 0 (right_pixels y w h 0) refl (λ a b. omega arith))

pub read-later : (w h : ℕ) (y : List ℕ) (r : ℕ) → 1 ≤ r → Within w h 0 r → length y ≡ 256 * (w * h)
    → right_read w h r y ≡ replicate 4 (last_above y w r)
unfolding right_read
read-later w h y r l p e =
    ap (λ (q : RightPixels). q.pixels) (copies y w h r (right_pixels y w h r) refl l p [] e)
    ∙ ap (λ (x : ℕ). replicate 4 x) (last-of-sixteen y w r [] p.column l)

pub rights-length : (w h : ℕ) (y : List ℕ) → length (rights_of w h y) ≡ 4 * (h - 1)
unfolding rights_of
rights-length w h y = table-length (4 * (h - 1)) (λ i. last_above y w (i / 4 + 1))

-- the four of row r among those that a plane shows
pub four-shown : (w h : ℕ) (y : List ℕ) (r : ℕ) → 1 ≤ r → r < h → take 4 (drop (4 * (r - 1)) (rights_of w h y)) ≡ replicate 4 (last_above y w r)
unfolding rights_of
four-shown w h y r l m =
    let f : ℕ → ℕ = λ i. last_above y w (i / 4 + 1) in
    let t : List ℕ = table (4 * (h - 1)) f in
    let n : length t ≡ 4 * (h - 1) = table-length (4 * (h - 1)) f in
    let q : length (take 4 (drop (4 * (r - 1)) t)) ≡ 4 = length-take-le 4 (drop (4 * (r - 1)) t) (rw (length-drop (4 * (r - 1)) t) (omega arith)) in
    ext_get_or 0 (take 4 (drop (4 * (r - 1)) t)) (replicate 4 (last_above y w r)) q
    (λ i k.
    let b : i < 4 = rw q at k in
    let g : (4 * (r - 1) + i) / 4 + 1 ≡ r = omega arith in
    get_or-take 4 (drop (4 * (r - 1)) t) i 0 b ∙ get_or-drop (4 * (r - 1)) t i 0 ∙ table_at (4 * (h - 1)) f (4 * (r - 1) + i) 0 (omega arith)
    ∙ ap (λ (s : ℕ). last_above y w s) g ∙ sym (get_or-replicate 4 i (last_above y w r) 0 b))

-- ---- right-hand pixels from two sources that agree at every turn
module _ (w h : ℕ) (modes subs : List ℕ) (coeffs : List ℤ) (s t : ℕ → List ℕ → List ℕ) where
  turn-same : (k : ℕ) (d : Progress) → s (k / w) d.y ≡ t (k / w) d.y → turn w h modes subs coeffs s k d ≡ turn w h modes subs coeffs t k d
  unfolding turn drawn_at
  turn-same k d e = rw e

  pub first-same : (y u v : List ℕ) (m : ℕ)
      → ((k : ℕ) → k < m → s (k / w) (first w h modes subs coeffs s k y u v).y ≡ t (k / w) (first w h modes subs coeffs s k y u v).y)
      → first w h modes subs coeffs s m y u v ≡ first w h modes subs coeffs t m y u v
  unfolding first turns
  first-same y u v zero e = refl
  first-same y u v (suc m) e =
      turn-same m (first w h modes subs coeffs s m y u v) (e m (omega arith))
      ∙ ap (λ (d : Progress). turn w h modes subs coeffs t m d) (first-same y u v m (λ k l. e k (omega arith)))

  count_same : (k : ℕ) (d : Progress) → s (k / w) d.y ≡ t (k / w) d.y → count_in w h modes subs coeffs s k d ≡ count_in w h modes subs coeffs t k d
  unfolding count_in count_at
  count_same k d e = rw e

  pub counts_same : (y u v : List ℕ) (m : ℕ)
      → ((k : ℕ) → k < m → s (k / w) (first w h modes subs coeffs s k y u v).y ≡ t (k / w) (first w h modes subs coeffs s k y u v).y)
      → first_clipped w h modes subs coeffs s m y u v ≡ first_clipped w h modes subs coeffs t m y u v
  unfolding first_clipped
  counts_same y u v m e =
      total_ext m _ _ λ k l.
      count_same k (first w h modes subs coeffs s k y u v) (e k l)
      ∙ ap (λ (d : Progress). count_in w h modes subs coeffs t k d) (first-same y u v k (λ j q. e j (omega arith)))

-- the last pixel of a row stands before the next
row_ends : (t s : ℕ) → 0 < s → t * s + (s - 1) < suc t * s
row_ends t s h = omega arith

module _ (w h : ℕ) (modes subs : List ℕ) (coeffs : List ℤ) (y u v : List ℕ) (size : Within w h 0 0) (fits : length y ≡ 256 * (w * h)) where
  abbrev at : ℕ → Progress
  at k = first w h modes subs coeffs (right_read w h) k y u v

  -- the last pixel of the row above is at macroblock k's turn what it is in the end
  shown : (k : ℕ) → k < w * h → 1 ≤ k / w → last_above (at k).y w (k / w) ≡ last_above (at (w * h)).y w (k / w)
  unfolding last_above
  shown k l m =
      let r : ℕ = k / w in
      let some : 0 < w = size.column in
      let up : suc (16 * r - 1) ≡ 16 * r = omega arith in
      let ends : (16 * r - 1) * (16 * w) + (16 * w - 1) < 16 * r * (16 * w) = rw up at (row_ends (16 * r - 1) (16 * w) (omega arith)) in
      sym
      (first-kept w h modes subs coeffs (right_read w h) y u v in_y ((16 * r - 1) * (16 * w) + (16 * w - 1)) k (w * h) (le_of_lt l)
      (λ j a b _ i x hi hx e. let f : 16 * r * (16 * w) ≤ _ = pixel-from 16 w r (j % w) (j / w) i x (rows-rise w k j some a) in omega arith))

  agree : (k : ℕ) → k < w * h → right_read w h (k / w) (at k).y ≡ right_given (rights_of w h (at (w * h)).y) (k / w) (at k).y
  agree k l =
      let r : ℕ = k / w in
      let rs : List ℕ = rights_of w h (at (w * h)).y in
      ⊎_elim
      (λ z. rw z (read_first w h (at k).y ∙ sym (given-first rs (at k).y)))
      (λ m.
      let inside : r < h = row_within k w h size.column l in
      let p : Within w h 0 r = record { width = size.width; height = size.height; column = size.column; row = inside } in
      read-later w h (at k).y r m p (first-length w h modes subs coeffs (right_read w h) y u v k in_y ∙ fits)
      ∙ ap (λ (x : ℕ). replicate 4 x) (shown k l m)
      ∙ sym (given-later rs (at k).y r m ∙ four-shown w h (at (w * h)).y r m inside))
      (eq-zero-or-pos r)

  pub alone-picture : picture w h modes subs coeffs (right_read w h) y u v
      ≡ picture w h modes subs coeffs (right_given (rights_of w h (picture w h modes subs coeffs (right_read w h) y u v).y)) y u v
  unfolding picture
  alone-picture = first-same w h modes subs coeffs (right_read w h) (right_given (rights_of w h (at (w * h)).y)) y u v (w * h) agree

  pub alone-counts : picture_clipped w h modes subs coeffs (right_read w h) y u v
      ≡ picture_clipped w h modes subs coeffs (right_given (rights_of w h (picture w h modes subs coeffs (right_read w h) y u v).y)) y u v
  unfolding picture_clipped picture
  alone-counts = counts_same w h modes subs coeffs (right_read w h) (right_given (rights_of w h (at (w * h)).y)) y u v (w * h) agree

-- ---- the answers
module _ (w h : ℕ) (modes subs : List ℕ) (coeffs : List ℤ) (y u v : List ℕ) where
  abbrev alone : Progress
  alone = alone_answer w h modes subs coeffs y u v

  abbrev lengths : Bool
  lengths = alone_fits w h modes subs coeffs y u v

  by_tests : (a b : Bool) → size_ok w h ≡ a → lengths ≡ b → alone ≡ still_answer w h modes subs coeffs (rights_of w h alone.y) y u v
  unfolding alone_answer still_answer
  by_tests false b e f = rw e
  by_tests true false e f = rw (e, f)
  by_tests true true e f =
      rw (e, f, eq-eqb (length (rights_of w h (picture w h modes subs coeffs (right_read w h) y u v).y)) (4 * (h - 1)) (rights-length w h _))
      (alone-picture w h modes subs coeffs y u v (size-says w h e) (accepted-lengths w h modes subs coeffs y u v f).y-plane)

  pub alone-is-given : alone_answer w h modes subs coeffs y u v
      ≡ still_answer w h modes subs coeffs (rights_of w h (alone_answer w h modes subs coeffs y u v).y) y u v
  alone-is-given = by_tests (size_ok w h) lengths refl refl

  counts-by : (a b : Bool) → size_ok w h ≡ a → lengths ≡ b
      → alone_clipped w h modes subs coeffs y u v ≡ still_clipped w h modes subs coeffs (rights_of w h alone.y) y u v
  unfolding alone_answer alone_clipped still_clipped
  counts-by false b e f = rw e
  counts-by true false e f = rw (e, f)
  counts-by true true e f =
      rw (e, f, eq-eqb (length (rights_of w h (picture w h modes subs coeffs (right_read w h) y u v).y)) (4 * (h - 1)) (rights-length w h _))
      (alone-counts w h modes subs coeffs y u v (size-says w h e) (accepted-lengths w h modes subs coeffs y u v f).y-plane)

  pub alone-count-is-given : alone_clipped w h modes subs coeffs y u v
      ≡ still_clipped w h modes subs coeffs (rights_of w h (alone_answer w h modes subs coeffs y u v).y) y u v
  alone-count-is-given = counts-by (size_ok w h) lengths refl refl

  -- the whole answer of the call: reply, index, planes and count
  pub alone-told-is-given : alone_told w h modes subs coeffs y u v
      ≡ still_told w h modes subs coeffs (rights_of w h (alone_told w h modes subs coeffs y u v).0.y) y u v
  alone-told-is-given = λ i. (alone-is-given i, alone-count-is-given i)
