-- What a change of a macroblock can reach, it reaches: in a still of two by two macroblocks, all in luma mode B with each sub-block in mode Ld and in chroma mode V,
-- a change of macroblock 1, at the right end of the first row, moves the luma of macroblock 2, below it to the left, and the chroma of macroblock 3, below it.
-- These are the borders of what `still-untouched` and `still-untouched-chroma` leave open. Computed. Assumes nothing.
--     moved              the pixels, in both calls
--     example-calls      the two calls that are compared differ only in macroblock 1
--     still-reached, alone-reached     so the macroblocks at the borders differ
use Prim.Native.Nat.{ℕ, ◌+◌, ◌-◌, ◌*◌, ◌<◌, ◌≤◌}
use mathlib.Core.Path.{◌≡◌, refl, sym, ap, ◌∙◌}
use mathlib.Core.List.{List, [], ◌∷◌, ◌++◌}
use native.Mathlib.Omega.{arith}
use lib.IntN.{ℤ, pos}
use lib.ListN.{length, get_or, take, drop, replicate, length-take, length-drop, length-append, length-replicate}
use lib.Seq.{get_or-take, get_or-drop, ext_get_or}
use Rattle.whole.specs.Whole.{wrap, narrow, clamp_to}
use Rattle.lists.specs.Lists.{table, rows, turns, part, within}
use Rattle.macroblock.specs.Modes.{mode_at, y_mode_at, uv_mode_at, b_mode_at}
use Rattle.macroblock.specs.Says.{y_reply, y_mode, uv_reply, uv_mode, b_mode}
use Rattle.rfc6386.specs.Dct.{pass, column, passes, by_sin, by_cos, rounded, residue}
use Rattle.rfc6386.specs.Residue.{sum}
use Rattle.rfc6386.specs.Edges.{edge_or, pixel_or, above_or, left_or, v_block, predict_uv}
use Rattle.rfc6386.specs.Picture.{pixel_of, row_above, left_of, luma_beside, chroma_beside, neighbors_of, place_ok, size_ok, sizes_ok}
use Rattle.rfc6386.specs.Subblock.{sub_ld, sub_pixel, predict_b}
use Rattle.rfc6386.specs.Walk.{added_blocks, plane, uv_prediction, uv_plane, laid, blank, copied_down, bordered, row_or, start_of, above_in, left_in, top_left_in, sub_prediction, sub_pixels, put_block, sub_block, walked, luma_of, y_parts}
use Rattle.reconstruct.specs.Answers.{refusal, parts_of, walk_b}
use Rattle.gathering.specs.Answers.{gathered}
use Rattle.drawing.specs.Drawn.{modes_known, modes_of, sub_modes_of, drawn_b, drawn_in, drawn}
use Rattle.canvas.specs.Placed.{pixel_at, placed_row, placed}
use Rattle.canvas.specs.Into.{made, drawn_into}
use Rattle.right_pixels.specs.Answers.{last_above, row_ok, right_pixels}
use Rattle.still.specs.Picture.{Progress, drawn_at, turn, first, picture, right_at, right_given, right_read}
use Rattle.still.specs.Answers.{lengths_ok, still_answer, alone_answer}
use Rattle.still_laws.specs.Words.{in_y, in_u, in_v}
use Rattle.reached.proofs.SubBlocks.{differ-at}
use Rattle.later_laws.specs.Calls.{Given, SameBut, SamePixels, still_of, alone_of}

-- 1,600 coefficients, of which the one at `at` is x and all others 0
abbrev only : ℕ → ℕ → List ℤ
only at x = replicate at (pos 0) ++ (pos x ∷ replicate (1599 - at) (pos 0))

-- for each macroblock luma mode B, chroma mode V, not skipped, and sixteen times Ld
abbrev room : ℕ → ℕ → Given
room at x =
    record {
      modes = 4 ∷ 1 ∷ 0 ∷ 4 ∷ 1 ∷ 0 ∷ 4 ∷ 1 ∷ 0 ∷ 4 ∷ 1 ∷ 0 ∷ [];
      subs = replicate 64 4;
      coeffs = only at x;
      y = replicate 1024 0;
      u = replicate 256 0;
      v = replicate 256 0;
    }

abbrev given : ℕ → ℕ → Progress
given at x = (still_of 2 2 (replicate 4 0) (room at x)).0

abbrev alone : ℕ → ℕ → Progress
alone at x = (alone_of 2 2 (room at x)).0

-- of macroblock 1, the first coefficients of luma sub-block 12, of U's block 2 and of V's block 2; the pixel in row 3 and column 15 of macroblock 2's luma, and the
-- first pixels of macroblock 3's chroma
abbrev shown : (ℕ → ℕ → Progress) → ℕ → List ℕ
shown call x = get_or (call 608 x).y 623 0 ∷ get_or (call 704 x).u 136 0 ∷ get_or (call 768 x).v 136 0 ∷ []

abbrev darker : List ℕ
darker = 127 ∷ 127 ∷ 127 ∷ []

abbrev lighter : List ℕ
lighter = 227 ∷ 227 ∷ 227 ∷ []

pub moved : (shown given 0 ≡ darker) × (shown given 800 ≡ lighter) × (shown alone 0 ≡ darker) × (shown alone 800 ≡ lighter)
unfolding wrap narrow clamp_to table rows turns part mode_at y_mode_at uv_mode_at b_mode_at y_reply y_mode uv_reply uv_mode b_mode within pass column passes by_sin by_cos rounded residue sum
    edge_or pixel_or above_or left_or v_block predict_uv pixel_of row_above left_of luma_beside chroma_beside neighbors_of place_ok sizes_ok sub_ld sub_pixel predict_b added_blocks plane uv_prediction
    uv_plane laid blank copied_down bordered row_or start_of above_in left_in top_left_in sub_prediction sub_pixels put_block sub_block walked luma_of y_parts refusal parts_of walk_b gathered
    modes_known modes_of sub_modes_of drawn_b drawn_in drawn pixel_at placed_row placed made drawn_into drawn_at turn first picture right_at right_given size_ok lengths_ok right_read last_above row_ok right_pixels still_answer alone_answer
moved = (refl, refl, refl, refl)

-- a part of both
part_same : {A : Type 0} (z : A) (l m : List A) (n at : ℕ) → length l ≡ length m → ((i : ℕ) → i < n → get_or l (at + i) z ≡ get_or m (at + i) z)
    → take n (drop at l) ≡ take n (drop at m)
part_same z l m n at e h =
    ext_get_or z (take n (drop at l)) (take n (drop at m)) (simp (length-take, length-drop, e))
    (λ i k.
    let b : i < n = omega (arith, length-take n (drop at l)) in
    get_or-take n (drop at l) i z b ∙ get_or-drop at l i z ∙ h i b ∙ sym (get_or-take n (drop at m) i z b ∙ get_or-drop at m i z))

-- ---- the calls
only-length : (at x : ℕ) → at < 1600 → length (only at x) ≡ 1600
only-length at x h = simp (length-append, length-replicate) (omega arith)

pub example-calls : (at : ℕ) → 400 ≤ at → at < 800 → SameBut 1 (room at 0) (room at 800)
example-calls at l h j n =
    record {
      luma = refl;
      chroma = refl;
      skip = refl;
      sub-blocks = refl;
      coefficients =
          part_same (pos 0) (only at 0) (only at 800) 400 (400 * j) (only-length at 0 (omega arith) ∙ sym (only-length at 800 (omega arith)))
          (λ i k. differ-at at (pos 0) (pos 800) (replicate (1599 - at) (pos 0)) (400 * j + i) (λ e. n (omega arith)));
    }

-- ---- the macroblocks at the borders
module _ (call : ℕ → ℕ → Progress) (before : shown call 0 ≡ darker) (after : shown call 800 ≡ lighter) where
  at : (i : ℕ) → get_or (shown call 0) i 0 ≡ get_or (shown call 800) i 0 → get_or darker i 0 ≡ get_or lighter i 0
  at i e = ap (λ (x : List ℕ). get_or x i 0) (sym before) ∙ e ∙ ap (λ (x : List ℕ). get_or x i 0) after

  differs : (SamePixels in_y 2 2 (call 608 0) (call 608 800) → ⊥)
      × (SamePixels in_u 2 3 (call 704 0) (call 704 800) → ⊥)
      × (SamePixels in_v 2 3 (call 768 0) (call 768 800) → ⊥)
  unfolding pixel_at
  differs = (
    λ s. (let e : ◌≡◌ {A = ℕ} 127 227 = at 0 (s 3 15 (omega arith) (omega arith)) in omega arith),
    λ s. (let e : ◌≡◌ {A = ℕ} 127 227 = at 1 (s 0 0 (omega arith) (omega arith)) in omega arith),
    λ s. (let e : ◌≡◌ {A = ℕ} 127 227 = at 2 (s 0 0 (omega arith) (omega arith)) in omega arith),
  )

-- macroblock 2 in luma, macroblock 3 in U and in V
pub still-reached : (SamePixels in_y 2 2 (given 608 0) (given 608 800) → ⊥)
    × (SamePixels in_u 2 3 (given 704 0) (given 704 800) → ⊥)
    × (SamePixels in_v 2 3 (given 768 0) (given 768 800) → ⊥)
still-reached = differs given moved.0 moved.1

pub alone-reached : (SamePixels in_y 2 2 (alone 608 0) (alone 608 800) → ⊥)
    × (SamePixels in_u 2 3 (alone 704 0) (alone 704 800) → ⊥)
    × (SamePixels in_v 2 3 (alone 768 0) (alone 768 800) → ⊥)
alone-reached = differs alone moved.2 moved.3
