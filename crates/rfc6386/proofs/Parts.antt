-- The luma of mode B: where each sub-block stands in the work buffer, and that what a sub-block put there stays.
--     put-inside, put-outside   a pixel of the sub-block that is put, and any other
--     corners-apart             no two sub-blocks have a pixel in common
--     walked-stays              a pixel of sub-block k at the end of the walk is the one that turn k put
--     parts_at                  so a luma pixel of sub-block k is the one of turn k
-- Assumes nothing.
use Prim.Native.Nat.{ℕ, ◌+◌, ◌-◌, ◌*◌, ◌/◌, ◌%◌, ◌<◌}
use mathlib.Core.Path.{◌≡◌, refl, sym, ap, ◌∙◌}
use mathlib.Core.Bool.{Bool}
use mathlib.Core.List.{List}
use native.Mathlib.Numerals.{add-one}
use native.Mathlib.Omega.{arith}
use lib.IntN.{ℤ}
use lib.ListN.{length, get_or}
use Rattle.lists.specs.Lists.{turns}
use Rattle.lists.proofs.Turns.{turns-keep}
use Rattle.lists.proofs.Nested.{turns-add}
use Rattle.lists.proofs.Rows.{rows_at}
use Rattle.lists.proofs.Updates.{updates-length, updates-outside, updates-inside}
use Rattle.macroblock.specs.declared.modes.IntraBmode.{IntraBmode}
use Rattle.macroblock.specs.declared.neighbors.LumaEdges.{LumaEdges}
use Rattle.rfc6386.specs.Walk.{block_at, laid, blank, copied_down, bordered, start_of, corner_of, sub_prediction, sub_pixels, put_block, sub_block, walked, luma_of, y_parts}

-- ---- sixteen pixels put into the buffer
-- where pixel i of the block at `at` stands
abbrev pub pixel_at : ℕ → ℕ → ℕ
pixel_at at i = at + 21 * (i / 4) + i % 4

pub put-length : (at : ℕ) (px b : List ℕ) → length (put_block at px b) ≡ length b
unfolding put_block
put-length at px b = updates-length 0 (pixel_at at) (λ i x. get_or px i 0) 16 b

pub put-outside : (at : ℕ) (px b : List ℕ) (j : ℕ) → ((i : ℕ) → i < 16 → j ≡ pixel_at at i → ⊥) → get_or (put_block at px b) j 0 ≡ get_or b j 0
unfolding put_block
put-outside at px b j h = updates-outside 0 (pixel_at at) (λ i x. get_or px i 0) 16 b j h

pub put-inside : (at : ℕ) (px b : List ℕ) (i : ℕ) → i < 16 → at + 66 < length b → get_or (put_block at px b) (pixel_at at i) 0 ≡ get_or px i 0
unfolding put_block
put-inside at px b i l h = updates-inside 0 (pixel_at at) (λ i x. get_or px i 0) 16 b i (λ x y p q e. omega arith) l (omega arith)

-- ---- the sixteen sub-blocks
-- a row and a column say the place, in rows of 21 and in rows of 4
row-21 : (a b x y : ℕ) → x < 21 → y < 21 → 21 * a + x ≡ 21 * b + y → (a ≡ b) × (x ≡ y)
row-21 a b x y h k e = (omega arith, omega arith)

row-4 : (a b x y : ℕ) → x < 4 → y < 4 → 4 * a + x ≡ 4 * b + y → a ≡ b
row-4 a b x y h k e = omega arith

by_4 : (k m : ℕ) → k / 4 ≡ m / 4 → k % 4 ≡ m % 4 → k ≡ m
by_4 k m p q = omega arith

pub corners-apart : (k m i j : ℕ) → i < 16 → j < 16 → pixel_at (corner_of k) i ≡ pixel_at (corner_of m) j → k ≡ m
corners-apart k m i j l h e =
    let p = row-21 (4 * (k / 4) + i / 4) (4 * (m / 4) + j / 4) (4 * (k % 4) + i % 4) (4 * (m % 4) + j % 4) (omega arith) (omega arith) (omega arith) in
    by_4 k m
    (row-4 (k / 4) (m / 4) (i / 4) (j / 4) (omega arith) (omega arith) p.0)
    (row-4 (k % 4) (m % 4) (i % 4) (j % 4) (omega arith) (omega arith) p.1)

module _ (modes : List IntraBmode) (skip : Bool) (coeffs : List ℤ) where
  pub sub-length : (k : ℕ) (b : List ℕ) → length (sub_block modes skip coeffs k b) ≡ length b
  unfolding sub_block
  sub-length k b = put-length (corner_of k) (sub_pixels skip (sub_prediction modes k b) (block_at coeffs 0 k)) b

  pub walked-length : (n : ℕ) (b : List ℕ) → length (walked n modes skip coeffs b) ≡ length b
  unfolding walked
  walked-length n b = turns-keep (λ (x : List ℕ). length x ≡ length b) n (sub_block modes skip coeffs) b (λ k y e. sub-length k y ∙ e) refl

  -- the pixels of sub-block k, from the buffer as the earlier ones left it
  abbrev pub pixels_of : ℕ → List ℕ → List ℕ
  pixels_of k b = sub_pixels skip (sub_prediction modes k (walked k modes skip coeffs b)) (block_at coeffs 0 k)

  pub sub-inside : (k : ℕ) (b : List ℕ) (i : ℕ) → i < 16 → corner_of k + 66 < length b
      → get_or (sub_block modes skip coeffs k b) (pixel_at (corner_of k) i) 0 ≡ get_or (sub_pixels skip (sub_prediction modes k b) (block_at coeffs 0 k)) i 0
  unfolding sub_block
  sub-inside k b i l h = put-inside (corner_of k) (sub_pixels skip (sub_prediction modes k b) (block_at coeffs 0 k)) b i l h

  pub sub-outside : (m : ℕ) (b : List ℕ) (k i : ℕ) → i < 16 → (m ≡ k → ⊥)
      → get_or (sub_block modes skip coeffs m b) (pixel_at (corner_of k) i) 0 ≡ get_or b (pixel_at (corner_of k) i) 0
  unfolding sub_block
  sub-outside m b k i l h =
      put-outside (corner_of m) (sub_pixels skip (sub_prediction modes m b) (block_at coeffs 0 m)) b (pixel_at (corner_of k) i)
      (λ j g e. h (corners-apart m k j i g l (sym e)))

  pub walked-stays : (k n : ℕ) (b : List ℕ) (i : ℕ) → k < n → i < 16 → corner_of k + 66 < length b
      → get_or (walked n modes skip coeffs b) (pixel_at (corner_of k) i) 0 ≡ get_or (pixels_of k b) i 0
  unfolding walked turns
  walked-stays k n b i kn l h =
      let e : n ≡ k + 1 + (n - (k + 1)) = omega arith in
      ap (λ (m : ℕ). get_or (walked m modes skip coeffs b) (pixel_at (corner_of k) i) 0) e
      ∙ ap (λ (x : List ℕ). get_or x (pixel_at (corner_of k) i) 0) (turns-add (k + 1) (n - (k + 1)) (sub_block modes skip coeffs) b)
      ∙ turns-keep (λ (x : List ℕ). get_or x (pixel_at (corner_of k) i) 0 ≡ get_or (pixels_of k b) i 0) (n - (k + 1))
      (λ j. sub_block modes skip coeffs (k + 1 + j)) (turns (k + 1) (sub_block modes skip coeffs) b)
      (λ j y q. sub-outside (k + 1 + j) y k i l (λ z. omega arith) ∙ q)
      (rw add-one (sub-inside k (walked k modes skip coeffs b) i l (rw (walked-length k b) h)))

-- ---- the buffer's length, and the luma
laid-length : (n at step : ℕ) (s b : List ℕ) → length (laid n at step s b) ≡ length b
unfolding laid
laid-length n at step s b = updates-length 0 (λ i. at + i * step) (λ i x. get_or s i 0) n b

pub start-length : (n : LumaEdges) → length (start_of n) ≡ 357
unfolding start_of bordered copied_down blank
start-length n = simp laid-length

-- row r and column c of sub-block k
pub parts_at : (modes : List IntraBmode) (skip : Bool) (n : LumaEdges) (coeffs : List ℤ) (k r c : ℕ) → k < 16 → r < 4 → c < 4
    → get_or (y_parts modes skip n coeffs) ((4 * (k / 4) + r) * 16 + (4 * (k % 4) + c)) 0 ≡ get_or (pixels_of modes skip coeffs k (start_of n)) (4 * r + c) 0
unfolding y_parts luma_of
parts_at modes skip n coeffs k r c hk hr hc =
    let b = walked 16 modes skip coeffs (start_of n) in
    let e : 22 + 21 * (4 * (k / 4) + r) + (4 * (k % 4) + c) ≡ pixel_at (corner_of k) (4 * r + c) = omega arith in
    rows_at 16 16 (λ r c. get_or b (22 + 21 * r + c) 0) (4 * (k / 4) + r) (4 * (k % 4) + c) 0 (omega arith) (omega arith)
    ∙ ap (λ (i : ℕ). get_or b i 0) e
    ∙ walked-stays modes skip coeffs k 16 (start_of n) (4 * r + c) hk (omega arith) (rw (start-length n) (omega arith))
