-- No window of a sub-block passes an end of the work buffer: 17 rows of 21, and the sixteen positions. So the walk has nothing to test and nothing
-- to refuse.
--     window-inside                                   a window begins at the pixel above left and ends with the fourth pixel of the fourth row
--     buffer-length                                   before each sub-block of a walk, and after the last, the buffer has 17 rows of 21
--     top-left-inside, above-inside, left-inside      each pixel that a sub-block reads is one of the buffer's
--     stores-inside                                   and so is each that it writes
--     walked-past                                     whatever follows a buffer of 17 rows of 21 is not read, and is left as it is
-- Assumes nothing.
use Prim.Native.Nat.{ℕ, zero, suc, ◌+◌, ◌*◌, ◌-◌, ◌<◌, ◌≤◌}
use mathlib.Core.Path.{◌≡◌, refl, ◌∙◌}
use mathlib.Core.Bool.{Bool}
use mathlib.Core.List.{List, ◌++◌}
use native.Mathlib.Omega.{arith}
use lib.IntN.{ℤ}
use lib.ListN.{length, get_or, get_or-append}
use lib.Seq.{set-append_left}
use Rattle.lists.specs.Lists.{turns, store}
use Rattle.lists.proofs.Updates.{updates-length}
use Rattle.macroblock.specs.declared.modes.IntraBmode.{IntraBmode}
use Rattle.macroblock.specs.declared.neighbors.LumaEdges.{LumaEdges}
use Rattle.rfc6386.specs.Walk.{block_at, corner_of, above_in, left_in, top_left_in, sub_prediction, sub_pixels, put_block, sub_block, start_of, walked}
use Rattle.rfc6386.proofs.Parts.{walked-length, start-length, pixel_at}

pub window-inside : (k : ℕ) → k < 16 → (22 ≤ corner_of k) × (corner_of k + 3 * 21 + 4 ≤ 17 * 21)
window-inside k h = (omega arith, omega arith)

-- ---- the buffer before sub-block k
module _ (modes : List IntraBmode) (skip : Bool) (coeffs : List ℤ) (n : LumaEdges) (k : ℕ) where
  abbrev pub before : List ℕ
  before = walked k modes skip coeffs (start_of n)

  pub buffer-length : length before ≡ 17 * 21
  buffer-length = walked-length modes skip coeffs k (start_of n) ∙ start-length n

  module _ (h : k < 16) where
    pub top-left-inside : (22 ≤ corner_of k) × (corner_of k - 22 < length before)
    top-left-inside = (omega arith, rw buffer-length (omega arith))

    -- four above, and four above-right
    pub above-inside : (c : ℕ) → c < 8 → (21 ≤ corner_of k) × (corner_of k - 21 + c < length before)
    above-inside c l = (omega arith, rw buffer-length (omega arith))

    pub left-inside : (r : ℕ) → r < 4 → (1 ≤ corner_of k) × (corner_of k - 1 + 21 * r < length before)
    left-inside r l = (omega arith, rw buffer-length (omega arith))

    -- pixel i of the sixteen
    pub stores-inside : (i : ℕ) → i < 16 → pixel_at (corner_of k) i < length before
    stores-inside i l = rw buffer-length (omega arith)

-- ---- a buffer b of 17 rows of 21, and what follows it
module _ (b rest : List ℕ) (size : length b ≡ 17 * 21) (k : ℕ) (h : k < 16) where
  same : (i : ℕ) → i < 357 → get_or (b ++ rest) i 0 ≡ get_or b i 0
  same i l = get_or-append b rest 0 i (rw size l)

  above-past : above_in (b ++ rest) (corner_of k) ≡ above_in b (corner_of k)
  unfolding above_in
  above-past =
      let at = corner_of k in
      rw (
        same (at - 21) (omega arith),
        same (at - 20) (omega arith),
        same (at - 19) (omega arith),
        same (at - 18) (omega arith),
        same (at - 17) (omega arith),
        same (at - 16) (omega arith),
        same (at - 15) (omega arith),
        same (at - 14) (omega arith),
      )

  left-past : left_in (b ++ rest) (corner_of k) ≡ left_in b (corner_of k)
  unfolding left_in
  left-past =
      let at = corner_of k in
      rw (same (at - 1) (omega arith), same (at + 20) (omega arith), same (at + 41) (omega arith), same (at + 62) (omega arith))

  top-left-past : top_left_in (b ++ rest) (corner_of k) ≡ top_left_in b (corner_of k)
  unfolding top_left_in
  top-left-past = same (corner_of k - 22) (omega arith)

  prediction-past : (modes : List IntraBmode) → sub_prediction modes k (b ++ rest) ≡ sub_prediction modes k b
  unfolding sub_prediction
  prediction-past modes = rw (above-past, left-past, top-left-past)

  stores-past : (px : List ℕ) (m : ℕ) → m ≤ 16
      → turns m (store (pixel_at (corner_of k)) (λ i. get_or px i 0)) (b ++ rest) ≡ turns m (store (pixel_at (corner_of k)) (λ i. get_or px i 0)) b ++ rest
  unfolding turns
  stores-past px zero l = refl
  stores-past px (suc m) l =
      rw (stores-past px m (omega arith))
      (set-append_left (turns m (store (pixel_at (corner_of k)) (λ i. get_or px i 0)) b) rest (pixel_at (corner_of k) m) (get_or px m 0)
      (rw (updates-length 0 (pixel_at (corner_of k)) (λ i x. get_or px i 0) m b ∙ size) (omega arith)))

  put-past : (px : List ℕ) → put_block (corner_of k) px (b ++ rest) ≡ put_block (corner_of k) px b ++ rest
  unfolding put_block
  put-past px = stores-past px 16 (omega arith)

module _ (modes : List IntraBmode) (skip : Bool) (coeffs : List ℤ) where
  sub-block-past : (b rest : List ℕ) → length b ≡ 17 * 21 → (k : ℕ) → k < 16
      → sub_block modes skip coeffs k (b ++ rest) ≡ sub_block modes skip coeffs k b ++ rest
  unfolding sub_block
  sub-block-past b rest size k h =
      rw (prediction-past b rest size k h modes) (put-past b rest size k h (sub_pixels skip (sub_prediction modes k b) (block_at coeffs 0 k)))

  pub walked-past : (b rest : List ℕ) → length b ≡ 17 * 21 → (k : ℕ) → k ≤ 16
      → walked k modes skip coeffs (b ++ rest) ≡ walked k modes skip coeffs b ++ rest
  unfolding walked turns
  walked-past b rest size zero l = refl
  walked-past b rest size (suc k) l =
      rw (walked-past b rest size k (omega arith))
      (sub-block-past (walked k modes skip coeffs b) rest (walked-length modes skip coeffs k b ∙ size) k (omega arith))
