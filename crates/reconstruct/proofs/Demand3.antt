-- Demand 3 of a macroblock. Of every answer that meets a walker's promise, accepted and not skipped, in which the coefficients that enter an
-- inverse DCT lie from -8191 to 8191: each pixel of Y, U and V, scaled by 2^35, is less than 13 * 2^32 away from the exact one, which is the
-- prediction with the exact transform T added, held within 0 and 255.
--     non_b-y, non_b-u, non_b-v        the four 16x16 modes: the WHT's outputs stand in the place of the Y blocks' own first coefficients
--     walk_b-y, walk_b-u, walk_b-v     mode B: a sub-block is predicted from the finished pixels of the earlier ones
-- Assumes nothing.
use Prim.Native.Nat.{ℕ, ◌+◌, ◌*◌, ◌/◌, ◌%◌, ◌^◌, ◌<◌}
use mathlib.Core.Path.{◌≡◌, ◌∙◌}
use mathlib.Core.Bool.{Bool, false}
use mathlib.Core.List.{List}
use native.Mathlib.Omega.{arith}
use lib.IntN.{ℤ}
use lib.ListN.{get_or}
use Rattle.macroblock.specs.Reply.{done}
use Rattle.macroblock.specs.declared.modes.IntraBmode.{IntraBmode}
use Rattle.macroblock.specs.declared.modes.MbModes.{MbModes}
use Rattle.macroblock.specs.declared.neighbors.MbNeighbors.{MbNeighbors}
use Rattle.rfc6386.specs.Walk.{block_at, seeded, plane, y_prediction, uv_prediction, y_whole, uv_plane, start_of, sub_prediction, walked}
use Rattle.rfc6386.specs.Exact.{Within, exact_pixel}
use Rattle.rfc6386.proofs.Demand3Planes.{Block8191, demand3-added, demand3-sub}
use Rattle.rfc6386.proofs.Parts.{parts_at}
use Rattle.reconstruct.specs.Answers.{MbAnswer, whole_of, parts_of, non_b, walk_b}
use Rattle.reconstruct.proofs.Replies.{non_b-accepted, walk_b-accepted}

-- the first n blocks
abbrev pub Blocks8191 : ℕ → (ℕ → ℕ → ℤ) → Type 0
Blocks8191 n x = (b : ℕ) → b < n → Block8191 (x b)

-- pixel i of the list l is near the exact one of the block x at row r and column c, predicted p
abbrev pub Near : List ℕ → ℕ → (ℕ → ℤ) → ℕ → ℕ → ℕ → Type 0
Near l i x r c p = Within (13 * 2 ^ 32) (2 ^ 35 * get_or l i 0) (exact_pixel x r c p)

-- ---- the four 16x16 modes
module _ (m : MbModes) (n : MbNeighbors) (c : List ℤ) (r : MbAnswer) (promise : r ≡ non_b m n c) (accepted : r.reply ≡ done) (coded : m.skip ≡ false) where
  is_whole : r ≡ whole_of m.y m.uv false n c
  is_whole = promise ∙ (non_b-accepted m n c (rw promise at accepted)).2 ∙ rw coded

  pub non_b-y : Blocks8191 16 (seeded c) → (i j : ℕ) → i < 16 → j < 16
      → Near r.y (i * 16 + j) (seeded c (4 * (i / 4) + j / 4)) (i % 4) (j % 4) (get_or (y_prediction m.y n.y) (i * 16 + j) 0)
  unfolding whole_of y_whole plane
  non_b-y h i j hi hj = rw is_whole (demand3-added 16 (y_prediction m.y n.y) (seeded c) i j hi hj (h (4 * (i / 4) + j / 4) (omega arith)))

  pub non_b-u : Blocks8191 4 (block_at c 272) → (i j : ℕ) → i < 8 → j < 8
      → Near r.u (i * 8 + j) (block_at c 272 (2 * (i / 4) + j / 4)) (i % 4) (j % 4) (get_or (uv_prediction m.uv n.u) (i * 8 + j) 0)
  unfolding whole_of uv_plane plane
  non_b-u h i j hi hj = rw is_whole (demand3-added 8 (uv_prediction m.uv n.u) (block_at c 272) i j hi hj (h (2 * (i / 4) + j / 4) (omega arith)))

  pub non_b-v : Blocks8191 4 (block_at c 336) → (i j : ℕ) → i < 8 → j < 8
      → Near r.v (i * 8 + j) (block_at c 336 (2 * (i / 4) + j / 4)) (i % 4) (j % 4) (get_or (uv_prediction m.uv n.v) (i * 8 + j) 0)
  unfolding whole_of uv_plane plane
  non_b-v h i j hi hj = rw is_whole (demand3-added 8 (uv_prediction m.uv n.v) (block_at c 336) i j hi hj (h (2 * (i / 4) + j / 4) (omega arith)))

-- ---- mode B
module _ (subs : List IntraBmode) (there : Bool) (m : MbModes) (n : MbNeighbors) (c : List ℤ) (r : MbAnswer)
    (promise : r ≡ walk_b subs there m n c) (accepted : r.reply ≡ done) (coded : m.skip ≡ false) where
  is-parts : r ≡ parts_of subs m.uv false n c
  is-parts = promise ∙ (walk_b-accepted subs there m n c (rw promise at accepted)).2 ∙ rw coded

  -- row i and column j of sub-block k
  pub walk_b-y : Blocks8191 16 (block_at c 0) → (k i j : ℕ) → k < 16 → i < 4 → j < 4
      → Near r.y ((4 * (k / 4) + i) * 16 + (4 * (k % 4) + j)) (block_at c 0 k) i j (get_or (sub_prediction subs k (walked k subs false c (start_of n.y))) (4 * i + j) 0)
  unfolding parts_of
  walk_b-y h k i j hk hi hj =
      let p = sub_prediction subs k (walked k subs false c (start_of n.y)) in
      let q : (4 * i + j) / 4 ≡ i = omega arith in
      let s : (4 * i + j) % 4 ≡ j = omega arith in
      rw (is-parts, parts_at subs false n.y c k i j hk hi hj) (rw (q, s) at (demand3-sub p (block_at c 0 k) (4 * i + j) (omega arith) (h k hk)))

  pub walk_b-u : Blocks8191 4 (block_at c 256) → (i j : ℕ) → i < 8 → j < 8
      → Near r.u (i * 8 + j) (block_at c 256 (2 * (i / 4) + j / 4)) (i % 4) (j % 4) (get_or (uv_prediction m.uv n.u) (i * 8 + j) 0)
  unfolding parts_of uv_plane plane
  walk_b-u h i j hi hj = rw is-parts (demand3-added 8 (uv_prediction m.uv n.u) (block_at c 256) i j hi hj (h (2 * (i / 4) + j / 4) (omega arith)))

  pub walk_b-v : Blocks8191 4 (block_at c 320) → (i j : ℕ) → i < 8 → j < 8
      → Near r.v (i * 8 + j) (block_at c 320 (2 * (i / 4) + j / 4)) (i % 4) (j % 4) (get_or (uv_prediction m.uv n.v) (i * 8 + j) 0)
  unfolding parts_of uv_plane plane
  walk_b-v h i j hi hj = rw is-parts (demand3-added 8 (uv_prediction m.uv n.v) (block_at c 320) i j hi hj (h (2 * (i / 4) + j / 4) (omega arith)))
