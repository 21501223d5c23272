-- 4x4 prediction.
--     dc-at-four, tm-at-four    Dc and Tm are the rules of 16x16 and 8x8 at n = 4, with A0 .. A3 above
--     b-length                  how many pixels there are
-- Assumes nothing.
use mathlib.Core.Path.{◌≡◌, ap}
use mathlib.Core.Bool.{true}
use mathlib.Core.List.{List, [], ◌∷◌}
use Prim.Native.Nat.{ℕ, ◌/◌, ◌≤◌}
use native.Mathlib.Omega.{arith}
use lib.ListN.{length, get_or, take}
use lib.Seq.{get_or-take}
use Rattle.lists.specs.Lists.{table, rows}
use Rattle.lists.proofs.Table.{table-take}
use Rattle.lists.proofs.Rows.{rows_ext, rows-length}
use Rattle.macroblock.specs.declared.modes.IntraBmode.{IntraBmode}
use Rattle.rfc6386.specs.Edges.{edge_or, above_or, left_or, dc_pixel, tm, tm_pixel, dc_block, tm_block}
use Rattle.rfc6386.specs.Subblock.{sub_dc, sub_pixel, predict_b}

-- A0 .. A3
pub front : (a : List ℕ) → 4 ≤ length a → get_or a 0 0 ∷ get_or a 1 0 ∷ get_or a 2 0 ∷ get_or a 3 0 ∷ [] ≡ take 4 a
unfolding table
front a h = table-take 4 a 0 h

pub dc-at-four : (a l : List ℕ) → dc_block 4 (take 4 a) true l true ≡ rows 4 4 (sub_dc a l)
unfolding dc_block dc_pixel sub_dc
dc-at-four a l = rows_ext 4 4 (λ r c. dc_pixel 4 (take 4 a) true l true) (sub_dc a l) (λ r c h k. ap (λ (s : ℕ). s / 8) (omega arith))

pub tm-at-four : (a l : List ℕ) (p : ℕ) → tm_block 4 (take 4 a) true l true p ≡ rows 4 4 (tm_pixel a l p)
unfolding tm_block above_or left_or edge_or
tm-at-four a l p =
    rows_ext 4 4 (tm_pixel (take 4 a) l p) (tm_pixel a l p) (λ r c h k. ap (λ (v : ℕ). tm (get_or l r 0) v p) (get_or-take 4 a c 0 k))

pub b-length : (mode : IntraBmode) (a l : List ℕ) (p : ℕ) → length (predict_b mode a l p) ≡ 16
unfolding predict_b
b-length mode a l p = rows-length 4 4 (sub_pixel mode a l p)
