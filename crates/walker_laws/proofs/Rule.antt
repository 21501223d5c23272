-- Luma mode B by its rule: each sub-block of the answer is predicted from the answer's own pixels and the given borders.
--     prediction-ruled   the prediction of sub-block k from the work buffer is the rule's from the finished macroblock
--     walk_b-ruled        the rule, of every accepted answer
--     walk_b-chroma-ruled, non_b-chroma-ruled     chroma by its rule
--     walk_b-near         demand 3 over the rule
-- Assumes nothing.
use Prim.Native.Nat.{ℕ, zero, suc, ◌+◌, ◌*◌, ◌/◌, ◌%◌, ◌<◌, ◌≤◌}
use mathlib.Core.Path.{◌≡◌, sym, ap, subst, ◌∙◌}
use mathlib.Core.Bool.{Bool, true, false}
use mathlib.Core.List.{List}
use mathlib.Core.Logic.{inl, inr, ⊎_elim}
use native.Mathlib.Omega.{arith}
use lib.IntN.{ℤ, pos}
use lib.ListN.{length, get_or}
use lib.Seq.{ext_get_or}
use Rattle.lists.specs.Lists.{table}
use Rattle.lists.proofs.Table.{table-length, table_at, table-ext}
use Rattle.macroblock.specs.Reply.{done}
use Rattle.macroblock.specs.declared.modes.IntraBmode.{IntraBmode}
use Rattle.macroblock.specs.declared.modes.IntraBmode.TheVariants.{Dc}
use Rattle.macroblock.specs.declared.modes.IntraUvMode.{IntraUvMode}
use Rattle.macroblock.specs.declared.modes.MbModes.{MbModes}
use Rattle.macroblock.specs.declared.neighbors.LumaEdges.{LumaEdges}
use Rattle.macroblock.specs.declared.neighbors.MbNeighbors.{MbNeighbors}
use Rattle.rfc6386.specs.Walk.{block_at, start_of, corner_of, above_in, left_in, top_left_in, sub_prediction, sub_pixels, walked, y_parts, uv_prediction, uv_plane}
use Rattle.rfc6386.proofs.Parts.{parts_at}
use Rattle.rfc6386.proofs.Planes.{plane-ext}
use Rattle.rfc6386.proofs.Subblock.{b-length}
use Rattle.sub_blocks.proofs.Windows.{above-is, left_is}
use Rattle.reconstruct.specs.Answers.{MbAnswer, whole_of, parts_of, non_b, walk_b}
use Rattle.reconstruct.proofs.Replies.{non_b-accepted, walk_b-accepted}
use Rattle.reconstruct.proofs.Demand3.{Blocks8191, Near, walk_b-y}
use Rattle.walker_laws.specs.Around.{around, row_above, column_left, column, row, above_sub, left_sub, corner_sub, predict_sub, place_in, sub_of, Ruled}
use Rattle.walker_laws.specs.Chroma.{luma_of_b, luma_of_16x16, u_block, v_block, chroma_u, chroma_v}
use Rattle.walker_laws.proofs.Laid.{below}
use Rattle.walker_laws.proofs.Shown.{Ready, shown}

-- ---- what the sub-block in row a and column b reads, at row r and column c, is ready
ready-above : (a b i r c : ℕ) → r ≡ 4 * a → c ≡ 4 * b + 1 + i → a < 4 → b < 4 → i < 8 → Ready (4 * a + b) r c
ready-above zero b i r c e f ha hb hi = inl (inl (omega arith))
ready-above (suc a) b i r c e f ha hb hi =
    ⊎_elim (λ l. inr (omega arith, omega arith, omega arith, omega arith)) (λ l. inl (inr (inr (omega arith, omega arith, omega arith)))) (below (4 * b + i) 16)

ready-left : (a b i r c : ℕ) → r ≡ 4 * a + 1 + i → c ≡ 4 * b → a < 4 → b < 4 → i < 4 → Ready (4 * a + b) r c
ready-left a zero i r c e f ha hb hi = inl (inr (inl (omega arith)))
ready-left a (suc b) i r c e f ha hb hi = inr (omega arith, omega arith, omega arith, omega arith)

ready-corner : (a b r c : ℕ) → r ≡ 4 * a → c ≡ 4 * b → a < 4 → b < 4 → Ready (4 * a + b) r c
ready-corner zero b r c e f ha hb = inl (inl (omega arith))
ready-corner (suc a) zero r c e f ha hb = inl (inr (inl (omega arith)))
ready-corner (suc a) (suc b) r c e f ha hb = inr (omega arith, omega arith, omega arith, omega arith)

by-quarter : (k : ℕ) → 4 * (k / 4) + k % 4 ≡ k
by-quarter k = omega arith

module _ (modes : List IntraBmode) (skip : Bool) (n : LumaEdges) (coeffs : List ℤ) (k : ℕ) (h : k < 16) where
  abbrev before : List ℕ
  before = walked k modes skip coeffs (start_of n)

  abbrev y : List ℕ
  y = y_parts modes skip n coeffs

  -- as a place in the buffer
  at-is : (q r c : ℕ) → q ≡ 21 * r + c → r ≤ 16 → c ≤ 20 → Ready (4 * (k / 4) + k % 4) r c → get_or before q 0 ≡ around n y r c
  at-is q r c e hr hc t =
      ap (λ (x : ℕ). get_or before x 0) e ∙ shown modes skip n coeffs k r c hr hc (subst (λ (m : ℕ). Ready m r c) (by-quarter k) t)

  above-ruled : above_in before (corner_of k) ≡ above_sub n y k
  unfolding above_sub
  above-ruled =
      sym (above-is before (corner_of k) (omega arith))
      ∙ table-ext 8 _ _ (λ i l. at-is _ (row_above k) (column k i) (omega arith) (omega arith) (omega arith)
      (ready-above (k / 4) (k % 4) i (row_above k) (column k i) (omega arith) (omega arith) (omega arith) (omega arith) l))

  left-ruled : left_in before (corner_of k) ≡ left_sub n y k
  unfolding left_sub
  left-ruled =
      sym (left_is before (corner_of k) (omega arith))
      ∙ table-ext 4 _ _ (λ i l. at-is _ (row k i) (column_left k) (omega arith) (omega arith) (omega arith)
      (ready-left (k / 4) (k % 4) i (row k i) (column_left k) (omega arith) (omega arith) (omega arith) (omega arith) l))

  corner-ruled : top_left_in before (corner_of k) ≡ corner_sub n y k
  unfolding top_left_in corner_sub
  corner-ruled =
      at-is _ (row_above k) (column_left k) (omega arith) (omega arith) (omega arith)
      (ready-corner (k / 4) (k % 4) (row_above k) (column_left k) (omega arith) (omega arith) (omega arith) (omega arith))

  pub prediction-ruled : sub_prediction modes k before ≡ predict_sub modes n y k
  unfolding sub_prediction predict_sub
  prediction-ruled = rw (above-ruled, left-ruled, corner-ruled)

-- ---- the sixteen pixels of a sub-block
pixels-length : (skip : Bool) (p : List ℕ) (x : ℕ → ℤ) → length p ≡ 16 → length (sub_pixels skip p x) ≡ 16
unfolding sub_pixels
pixels-length true p x e = e
pixels-length false p x e = table-length 16 _

predict-length : (modes : List IntraBmode) (n : LumaEdges) (y : List ℕ) (k : ℕ) → length (predict_sub modes n y k) ≡ 16
unfolding predict_sub
predict-length modes n y k = b-length (get_or modes k Dc) (above_sub n y k) (left_sub n y k) (corner_sub n y k)

pub parts-ruled : (modes : List IntraBmode) (skip : Bool) (n : LumaEdges) (coeffs : List ℤ) → Ruled modes skip n coeffs (y_parts modes skip n coeffs)
unfolding sub_of
parts-ruled modes skip n coeffs k h =
    let y : List ℕ = y_parts modes skip n coeffs in
    let p : List ℕ = predict_sub modes n y k in
    let f : ℕ → ℕ = λ i. get_or y (place_in k i) 0 in
    let q : length (sub_pixels skip p (block_at coeffs 0 k)) ≡ 16 = pixels-length skip p (block_at coeffs 0 k) (predict-length modes n y k) in
    ext_get_or 0 (table 16 f) (sub_pixels skip p (block_at coeffs 0 k)) (table-length 16 f ∙ sym q)
    (λ i l.
    let b : i < 16 = rw (table-length 16 f) at l in
    table_at 16 f i 0 b ∙ ap (λ (x : ℕ). get_or y x 0) (omega arith)
    ∙ parts_at modes skip n coeffs k (i / 4) (i % 4) h (omega arith) (omega arith)
    ∙ ap (λ (x : ℕ). get_or (sub_pixels skip (sub_prediction modes k (walked k modes skip coeffs (start_of n))) (block_at coeffs 0 k)) x 0) (omega arith)
    ∙ ap (λ (x : List ℕ). get_or (sub_pixels skip x (block_at coeffs 0 k)) i 0) (prediction-ruled modes skip n coeffs k h))

-- ---- chroma, after `luma` coefficients
module _ (mode : IntraUvMode) (skip : Bool) (n : MbNeighbors) (c : List ℤ) (luma : ℕ) where
  u-ruled : uv_plane mode skip n.u c luma ≡ chroma_u luma mode skip n c
  unfolding uv_plane chroma_u
  u-ruled = plane-ext 8 skip (uv_prediction mode n.u) (block_at c luma) (u_block luma c) (λ r s k _ _ _. ap (λ (q : ℕ). get_or c q (pos 0)) (omega arith))

  v-ruled : uv_plane mode skip n.v c (luma + 64) ≡ chroma_v luma mode skip n c
  unfolding uv_plane chroma_v
  v-ruled = plane-ext 8 skip (uv_prediction mode n.v) (block_at c (luma + 64)) (v_block luma c) (λ r s k _ _ _. ap (λ (q : ℕ). get_or c q (pos 0)) (omega arith))

-- ---- what `decode_keyframe_mb_bpred` returns
module _ (subs : List IntraBmode) (there : Bool) (m : MbModes) (n : MbNeighbors) (c : List ℤ) (r : MbAnswer)
    (promise : r ≡ walk_b subs there m n c) (accepted : r.reply ≡ done) where
  is-parts : r ≡ parts_of subs m.uv m.skip n c
  is-parts = promise ∙ (walk_b-accepted subs there m n c (rw promise at accepted)).2

  luma-is : r.y ≡ y_parts subs m.skip n.y c
  unfolding parts_of
  luma-is = ap (λ (x : MbAnswer). x.y) is-parts

  pub walk_b-ruled : Ruled subs m.skip n.y c r.y
  walk_b-ruled = rw luma-is (parts-ruled subs m.skip n.y c)

  pub walk_b-chroma-ruled : (r.u ≡ chroma_u luma_of_b m.uv m.skip n c) × (r.v ≡ chroma_v luma_of_b m.uv m.skip n c)
  unfolding parts_of
  walk_b-chroma-ruled = (
    ap (λ (x : MbAnswer). x.u) is-parts ∙ u-ruled m.uv m.skip n c luma_of_b,
    ap (λ (x : MbAnswer). x.v) is-parts ∙ v-ruled m.uv m.skip n c luma_of_b,
  )

  -- row i and column j of sub-block k
  pub walk_b-near : m.skip ≡ false → Blocks8191 16 (block_at c 0) → (k i j : ℕ) → k < 16 → i < 4 → j < 4
      → Near r.y ((4 * (k / 4) + i) * 16 + (4 * (k % 4) + j)) (block_at c 0 k) i j (get_or (predict_sub subs n.y r.y k) (4 * i + j) 0)
  walk_b-near coded h k i j hk hi hj =
      let e : y_parts subs false n.y c ≡ r.y = sym (luma-is ∙ ap (λ (s : Bool). y_parts subs s n.y c) coded) in
      rw (prediction-ruled subs false n.y c k hk, e) at (walk_b-y subs there m n c r promise accepted coded h k i j hk hi hj)

-- ---- what `decode_keyframe_mb_non_bpred` returns
pub non_b-chroma-ruled : (m : MbModes) (n : MbNeighbors) (c : List ℤ) (r : MbAnswer) → r ≡ non_b m n c → r.reply ≡ done
    → (r.u ≡ chroma_u luma_of_16x16 m.uv m.skip n c) × (r.v ≡ chroma_v luma_of_16x16 m.uv m.skip n c)
unfolding whole_of
non_b-chroma-ruled m n c r promise accepted =
    let e : r ≡ whole_of m.y m.uv m.skip n c = promise ∙ (non_b-accepted m n c (rw promise at accepted)).2 in (
      ap (λ (x : MbAnswer). x.u) e ∙ u-ruled m.uv m.skip n c luma_of_16x16,
      ap (λ (x : MbAnswer). x.v) e ∙ v-ruled m.uv m.skip n c luma_of_16x16,
    )
