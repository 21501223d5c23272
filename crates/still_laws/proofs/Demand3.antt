-- Demand 3 of a still: of every answer, each pixel of each finished macroblock that is not skipped and whose coefficients that enter an inverse DCT lie from
-- -8191 to 8191, scaled by 2^35, is less than 13 * 2^32 away from the exact one: the prediction, from the planes that the macroblocks before it left, with the
-- exact transform T added, held within 0 and 255.
-- `still-answered` and `alone-answered` say that the two calls' answers are such.
--     whole-y, whole-u, whole-v     the four 16x16 modes
--     parts-y, parts-u, parts-v     mode B
-- Assumes nothing.
use Prim.Native.Nat.{ℕ, ◌+◌, ◌*◌, ◌/◌, ◌%◌, ◌<◌}
use mathlib.Core.Bool.{true, false}
use mathlib.Core.Path.{◌≡◌, ap, ◌∙◌}
use mathlib.Core.List.{List}
use native.Mathlib.Omega.{arith}
use borrow.Author.Tests.{ne_eqb}
use lib.IntN.{ℤ}
use lib.ListN.{get_or, drop}
use Rattle.macroblock.specs.Reply.{done}
use Rattle.macroblock.specs.declared.modes.IntraBmode.{IntraBmode}
use Rattle.macroblock.specs.declared.neighbors.MbNeighbors.{MbNeighbors}
use Rattle.rfc6386.specs.Walk.{block_at, seeded, y_prediction, uv_prediction, start_of, sub_prediction, walked}
use Rattle.reconstruct.specs.Answers.{MbAnswer, non_b, walk_b}
use Rattle.reconstruct.proofs.Demand3.{Blocks8191, Near, non_b-y, non_b-u, non_b-v, walk_b-y, walk_b-u, walk_b-v}
use Rattle.drawing.specs.Drawn.{modes_of, sub_modes_of}
use Rattle.canvas.specs.Into.{made}
use Rattle.still.specs.Picture.{Progress, first}
use Rattle.still_laws.specs.Words.{in_y, in_u, in_v, pixel_of, neighbors_at, luma_byte, chroma_byte, skip_byte, modes_at, subs_at, coeffs_at, made_at, Finished}
use Rattle.still_laws.proofs.Answered.{Answered}
use Rattle.still_laws.proofs.Pixels.{finished-made, finished-pixels}
use Rattle.still_laws.proofs.Walked.{is-non_b, is-walk_b}

-- a pixel that stands elsewhere too
carried : (l m : List ℕ) (a b : ℕ) (x : ℕ → ℤ) (r c p : ℕ) → get_or l a 0 ≡ get_or m b 0 → Near m b x r c p → Near l a x r c p
carried l m a b x r c p e h = rw e h

module _ (w h : ℕ) (modes subs : List ℕ) (coeffs : List ℤ) (y u v : List ℕ) (right : ℕ → List ℕ → List ℕ) (d : Progress)
    (a : Answered w h modes subs coeffs y u v right d) (k : ℕ) (f : Finished w h d k) (coded : skip_byte modes k ≡ 0) where
  -- the planes at its turn, its neighbours there, and what the walkers make
  abbrev before : Progress
  before = first w h modes subs coeffs right k y u v

  abbrev around : MbNeighbors
  around = neighbors_at w h right k before

  abbrev result : MbAnswer
  result = made_at w h modes subs coeffs right k before

  accepted : result.reply ≡ done
  accepted = finished-made w h modes subs coeffs y u v right a k f

  not-skipped : (modes_at modes k).skip ≡ false
  unfolding modes_of
  not-skipped = ne_eqb (skip_byte modes k) 1 (λ e. omega arith)

  module _ (other : luma_byte modes k ≡ 4 → ⊥) where
    promise : result ≡ non_b (modes_at modes k) around (coeffs_at coeffs k)
    unfolding made_at made neighbors_at
    promise = is-non_b (luma_byte modes k) (chroma_byte modes k) (skip_byte modes k) (subs_at subs k) true around (coeffs_at coeffs k) accepted other

    pub whole-y : Blocks8191 16 (seeded (coeffs_at coeffs k)) → (i j : ℕ) → i < 16 → j < 16
        → Near d.y (pixel_of in_y w k i j) (seeded (coeffs_at coeffs k) (4 * (i / 4) + j / 4)) (i % 4) (j % 4)
        (get_or (y_prediction (modes_at modes k).y around.y) (i * 16 + j) 0)
    whole-y s i j hi hj =
        carried d.y result.y (pixel_of in_y w k i j) (i * 16 + j) _ _ _ _
        (finished-pixels w h modes subs coeffs y u v right a k f in_y i j hi hj ∙ ap (λ (t : ℕ). get_or result.y t 0) (omega arith))
        (non_b-y (modes_at modes k) around (coeffs_at coeffs k) result promise accepted not-skipped s i j hi hj)

    pub whole-u : Blocks8191 4 (block_at (coeffs_at coeffs k) 272) → (i j : ℕ) → i < 8 → j < 8
        → Near d.u (pixel_of in_u w k i j) (block_at (coeffs_at coeffs k) 272 (2 * (i / 4) + j / 4)) (i % 4) (j % 4)
        (get_or (uv_prediction (modes_at modes k).uv around.u) (i * 8 + j) 0)
    whole-u s i j hi hj =
        carried d.u result.u (pixel_of in_u w k i j) (i * 8 + j) _ _ _ _
        (finished-pixels w h modes subs coeffs y u v right a k f in_u i j hi hj ∙ ap (λ (t : ℕ). get_or result.u t 0) (omega arith))
        (non_b-u (modes_at modes k) around (coeffs_at coeffs k) result promise accepted not-skipped s i j hi hj)

    pub whole-v : Blocks8191 4 (block_at (coeffs_at coeffs k) 336) → (i j : ℕ) → i < 8 → j < 8
        → Near d.v (pixel_of in_v w k i j) (block_at (coeffs_at coeffs k) 336 (2 * (i / 4) + j / 4)) (i % 4) (j % 4)
        (get_or (uv_prediction (modes_at modes k).uv around.v) (i * 8 + j) 0)
    whole-v s i j hi hj =
        carried d.v result.v (pixel_of in_v w k i j) (i * 8 + j) _ _ _ _
        (finished-pixels w h modes subs coeffs y u v right a k f in_v i j hi hj ∙ ap (λ (t : ℕ). get_or result.v t 0) (omega arith))
        (non_b-v (modes_at modes k) around (coeffs_at coeffs k) result promise accepted not-skipped s i j hi hj)

  module _ (b : luma_byte modes k ≡ 4) where
    -- its sixteen sub-block modes, and its coefficients after the first 16
    abbrev kinds : List IntraBmode
    kinds = sub_modes_of (subs_at subs k)

    abbrev rest : List ℤ
    rest = drop 16 (coeffs_at coeffs k)

    b-promise : result ≡ walk_b kinds true (modes_at modes k) around rest
    unfolding made_at made neighbors_at
    b-promise = is-walk_b (luma_byte modes k) (chroma_byte modes k) (skip_byte modes k) (subs_at subs k) true around (coeffs_at coeffs k) accepted b

    -- row i and column j of sub-block s
    pub parts-y : Blocks8191 16 (block_at rest 0) → (s i j : ℕ) → s < 16 → i < 4 → j < 4
        → Near d.y (pixel_of in_y w k (4 * (s / 4) + i) (4 * (s % 4) + j)) (block_at rest 0 s) i j
        (get_or (sub_prediction kinds s (walked s kinds false rest (start_of around.y))) (4 * i + j) 0)
    parts-y z s i j hs hi hj =
        carried d.y result.y (pixel_of in_y w k (4 * (s / 4) + i) (4 * (s % 4) + j)) ((4 * (s / 4) + i) * 16 + (4 * (s % 4) + j)) _ _ _ _
        (finished-pixels w h modes subs coeffs y u v right a k f in_y (4 * (s / 4) + i) (4 * (s % 4) + j) (omega arith) (omega arith)
        ∙ ap (λ (t : ℕ). get_or result.y t 0) (omega arith))
        (walk_b-y kinds true (modes_at modes k) around rest result b-promise accepted not-skipped z s i j hs hi hj)

    pub parts-u : Blocks8191 4 (block_at rest 256) → (i j : ℕ) → i < 8 → j < 8
        → Near d.u (pixel_of in_u w k i j) (block_at rest 256 (2 * (i / 4) + j / 4)) (i % 4) (j % 4)
        (get_or (uv_prediction (modes_at modes k).uv around.u) (i * 8 + j) 0)
    parts-u s i j hi hj =
        carried d.u result.u (pixel_of in_u w k i j) (i * 8 + j) _ _ _ _
        (finished-pixels w h modes subs coeffs y u v right a k f in_u i j hi hj ∙ ap (λ (t : ℕ). get_or result.u t 0) (omega arith))
        (walk_b-u kinds true (modes_at modes k) around rest result b-promise accepted not-skipped s i j hi hj)

    pub parts-v : Blocks8191 4 (block_at rest 320) → (i j : ℕ) → i < 8 → j < 8
        → Near d.v (pixel_of in_v w k i j) (block_at rest 320 (2 * (i / 4) + j / 4)) (i % 4) (j % 4)
        (get_or (uv_prediction (modes_at modes k).uv around.v) (i * 8 + j) 0)
    parts-v s i j hi hj =
        carried d.v result.v (pixel_of in_v w k i j) (i * 8 + j) _ _ _ _
        (finished-pixels w h modes subs coeffs y u v right a k f in_v i j hi hj ∙ ap (λ (t : ℕ). get_or result.v t 0) (omega arith))
        (walk_b-v kinds true (modes_at modes k) around rest result b-promise accepted not-skipped s i j hi hj)
