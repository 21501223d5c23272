-- The decay pictures that we already know, all fourteen, computed on the definitions as one table. Assumes nothing.
use mathlib.Core.Path.{◌≡◌, refl}
use mathlib.Core.Bool.{true, false}
use mathlib.Core.List.{List, [], ◌∷◌, ◌++◌}
use Prim.Native.Nat.{ℕ}
use lib.Dec.{leb, eqb}
use lib.IntN.{ℤ, pos, negsuc, ◌+ℤ◌}
use lib.ListN.{replicate}
use Rattle.whole.specs.Whole.{wrap, narrow, clamp_to}
use Rattle.lists.specs.Lists.{table, rows, turns, pick, both, part}
use Rattle.macroblock.specs.declared.modes.IntraYMode.TheVariants as y
use Rattle.macroblock.specs.declared.modes.IntraBmode.TheVariants as b
use Rattle.macroblock.specs.Neighbors.{no_luma}
use Rattle.rfc6386.specs.Quantiser.{dc_lookup, ac_lookup, clamp_index, dc_factor, ac_factor, dequant}
use Rattle.rfc6386.specs.Wht.{wht_pass, wht_column, wht_round, wht_at, iwht}
use Rattle.rfc6386.specs.Dct.{pass, column, passes, by_sin, by_cos, rounded, residue, idct}
use Rattle.rfc6386.specs.Edges.{edge_or, pixel_or, above_or, left_or, sum_of, dc_pixel, tm, dc_block, predict_y}
use Rattle.rfc6386.specs.Subblock.{sub_he, sub_ve, sub_ld, sub_vl, sub_pixel, predict_b}
use Rattle.rfc6386.specs.Walk.{laid, blank, copied_down, bordered, row_or, start_of, above_in, left_in, top_left_in, sub_prediction, sub_pixels, put_block, sub_block, walked, luma_of, y_parts}

-- an edge of sixteen with sum v; A = 0, 8, .., 56; a block with one coefficient that is not 0, at place k
abbrev sum16 : ℕ → List ℕ
sum16 v = v ∷ replicate 15 0

abbrev ramp : List ℕ
ramp = 0 ∷ 8 ∷ 16 ∷ 24 ∷ 32 ∷ 40 ∷ 48 ∷ 56 ∷ []

abbrev only : ℕ → ℤ → List ℤ
only k x = replicate k (pos 0) ++ (x ∷ replicate 15 (pos 0))

-- 16, 7, -7, -16 along each row, and down each column
abbrev wave : List ℤ
wave = pos 16 ∷ pos 7 ∷ negsuc 6 ∷ negsuc 15 ∷ []

-- Y 127, but 128 in column 0 of rows 4 to 15
abbrev first_column : ℕ → ℕ → ℕ
first_column r c = pick (both (leb 4 r) (eqb c 0)) 128 127

pub known-pictures : (a l : List ℕ) (p : ℕ) (coeffs : List ℤ)
    -- 1: 16x16 DC, no edges
    → (predict_y y.Dc a false l false p ≡ replicate 256 128)
    -- 2: 16x16 DC, above sum 7; 8; left absent
    × (predict_y y.Dc (sum16 7) true l false p ≡ replicate 256 0)
    × (predict_y y.Dc (sum16 8) true l false p ≡ replicate 256 1)
    -- 3: 16x16 DC, both, sum 15; 16
    × (predict_y y.Dc (sum16 7) true (sum16 8) true p ≡ replicate 256 0)
    × (predict_y y.Dc (sum16 8) true (sum16 8) true p ≡ replicate 256 1)
    -- 4: TM left 250 above 20 P 10; 5, 5, 11
    × (tm 250 20 10 ≡ 255)
    × (tm 5 5 11 ≡ 0)
    -- 5: DCT, only DC: 3; 4; -4; -5
    × (idct (only 0 (pos 3)) ≡ replicate 16 (pos 0))
    × (idct (only 0 (pos 4)) ≡ replicate 16 (pos 1))
    × (idct (only 0 (negsuc 3)) ≡ replicate 16 (pos 0))
    × (idct (only 0 (negsuc 4)) ≡ replicate 16 (negsuc 0))
    -- 6: DCT, only coefficient 1 = 100. 7: only coefficient 4 = 100
    × (idct (only 1 (pos 100)) ≡ wave ++ wave ++ wave ++ wave)
    × (idct (only 4 (pos 100)) ≡ replicate 4 (pos 16) ++ replicate 4 (pos 7) ++ replicate 4 (negsuc 6) ++ replicate 4 (negsuc 15))
    -- 8: WHT, only DC: 4; 5; -3; -4
    × (iwht (only 0 (pos 4)) ≡ replicate 16 (pos 0))
    × (iwht (only 0 (pos 5)) ≡ replicate 16 (pos 1))
    × (iwht (only 0 (negsuc 2)) ≡ replicate 16 (pos 0))
    × (iwht (only 0 (negsuc 3)) ≡ replicate 16 (negsuc 0))
    -- 9: WHT, all sixteen 32767
    × (iwht (replicate 16 (pos 32767)) ≡ negsuc 1 ∷ replicate 15 (pos 0))
    -- 10: dequantise 300 by 200
    × (dequant (pos 300) (pos 200) ≡ negsuc 5535)
    -- 11: factors (0, 128); (-1, 0)
    × (dc_factor (pos 0 +ℤ pos 128) ≡ pos 157)
    × (ac_factor (pos 0) ≡ pos 4)
    × (dc_factor (negsuc 0 +ℤ pos 0) ≡ pos 4)
    × (ac_factor (negsuc 0) ≡ pos 4)
    -- 12: A = 0, 8, .., 56: Ld (0,0); (3,3). 13: Vl (2,3); (3,3)
    × (sub_pixel b.Ld ramp l p 0 0 ≡ 8)
    × (sub_pixel b.Ld ramp l p 3 3 ≡ 54)
    × (sub_pixel b.Vl ramp l p 2 3 ≡ 40)
    × (sub_pixel b.Vl ramp l p 3 3 ≡ 48)
    -- 14: B walker, no edges, skipped, all He; all Ve
    × (y_parts (replicate 16 b.He) true no_luma coeffs ≡ replicate 256 129)
    × (y_parts (replicate 16 b.Ve) true no_luma coeffs ≡ rows 16 16 first_column)
unfolding wrap narrow clamp_to table rows turns part no_luma dc_lookup ac_lookup clamp_index dc_factor ac_factor dequant wht_pass wht_column wht_round wht_at iwht
    pass column passes by_sin by_cos rounded residue idct edge_or pixel_or above_or left_or sum_of dc_pixel tm dc_block predict_y sub_he sub_ve sub_ld sub_vl sub_pixel predict_b
    laid blank copied_down bordered row_or start_of above_in left_in top_left_in sub_prediction sub_pixels put_block sub_block walked luma_of y_parts
known-pictures a l p coeffs =
    (refl, refl, refl, refl, refl, refl, refl, refl, refl, refl, refl, refl, refl, refl, refl, refl, refl, refl, refl, refl, refl, refl, refl, refl, refl, refl, refl, refl, refl)
