-- Nothing later touches anything earlier, in a macroblock: two accepted calls of a walker with the same modes, skip flag and edges.
--     walk_b-untouched    mode B, coefficients that differ only in luma sub-block k: the sub-blocks that the change cannot reach are the same
--     walk_b-before       so are all before k in raster order
--     walk_b-chroma       and so is chroma
--     non_b-chroma        the 16x16 modes: chroma is the same where only luma or Y2 coefficients differ
--     non_b-others        and so is each luma sub-block but k where only the coefficients of Y block k differ
-- Assumes nothing.
use Prim.Native.Nat.{ℕ, zero, suc, ◌+◌, ◌*◌, ◌/◌, ◌%◌, ◌<◌, ◌≤◌}
use mathlib.Core.Path.{◌≡◌, refl, sym, ap, ◌∙◌}
use mathlib.Core.Bool.{Bool, true, false}
use mathlib.Core.List.{List}
use mathlib.Core.Logic.{inl, inr, ⊎_elim}
use native.Mathlib.Omega.{arith}
use lib.IntN.{ℤ, pos}
use lib.ListN.{get_or, take}
use lib.Seq.{get_or-take}
use Rattle.lists.proofs.Table.{table-ext}
use Rattle.macroblock.specs.Reply.{done}
use Rattle.macroblock.specs.declared.modes.IntraBmode.{IntraBmode}
use Rattle.macroblock.specs.declared.modes.IntraUvMode.{IntraUvMode}
use Rattle.macroblock.specs.declared.modes.MbModes.{MbModes}
use Rattle.macroblock.specs.declared.neighbors.MbNeighbors.{MbNeighbors}
use Rattle.rfc6386.specs.Residue.{sum}
use Rattle.rfc6386.specs.Walk.{seeded, added_blocks, plane, y_prediction, uv_prediction, y_whole}
use Rattle.rfc6386.proofs.DctBlocks.{residue-ext}
use Rattle.rfc6386.proofs.Planes.{added-at, plane-ext, iwht-ext}
use Rattle.reconstruct.specs.Answers.{MbAnswer, whole_of, non_b, walk_b}
use Rattle.reconstruct.proofs.Replies.{non_b-accepted}
use Rattle.walker_laws.specs.Around.{sub_of}
use Rattle.walker_laws.specs.Chroma.{luma_of_b, luma_of_16x16, u_block, v_block, chroma_u, chroma_v}
use Rattle.walker_laws.specs.Moves.{Untouched, UntouchedChroma, Closed, ClosedChroma, SameButSub, SameButLuma, SameButY}
use Rattle.walker_laws.proofs.Laid.{below}
use Rattle.walker_laws.proofs.Rule.{walk_b-ruled, walk_b-chroma-ruled, non_b-chroma-ruled}
use Rattle.walker_laws.proofs.Agree.{ruled-agree}

-- ---- what a change cannot reach is closed: nothing of it reads what the change can reach
module _ (kr kc : ℕ) where
  pub untouched-closed : Closed (Untouched kr kc)
  untouched-closed =
      record {
        left = λ r c p. ⊎_elim inl (λ l. inr (omega arith)) p;
        above-left = λ r c p. ⊎_elim (λ l. inl (omega arith)) (λ l. inr (omega arith)) p;
        above = λ r c p. ⊎_elim (λ l. inl (omega arith)) (λ l. inr (omega arith)) p;
        above-right = λ r c p. ⊎_elim (λ l. inl (omega arith)) (λ l. ⊎_elim inl (λ h. inr (omega arith)) (below r kr)) p;
      }

  pub untouched-closed-chroma : ClosedChroma (UntouchedChroma kr kc)
  untouched-closed-chroma =
      record {
        left = λ r c p. ⊎_elim inl (λ l. inr (omega arith)) p;
        above-left = λ r c p. ⊎_elim (λ l. inl (omega arith)) (λ l. inr (omega arith)) p;
        above = λ r c p. ⊎_elim (λ l. inl (omega arith)) inr p;
      }

-- ---- chroma depends on the coefficients after the luma's only
module _ (luma : ℕ) (mode : IntraUvMode) (skip : Bool) (n : MbNeighbors) (c d : List ℤ)
    (same : (j : ℕ) → luma ≤ j → get_or c j (pos 0) ≡ get_or d j (pos 0)) where
  pub u-agree : chroma_u luma mode skip n c ≡ chroma_u luma mode skip n d
  unfolding chroma_u
  u-agree = plane-ext 8 skip (uv_prediction mode n.u) (u_block luma c) (u_block luma d) (λ r s k _ _ _. same _ (omega arith))

  pub v-agree : chroma_v luma mode skip n c ≡ chroma_v luma mode skip n d
  unfolding chroma_v
  v-agree = plane-ext 8 skip (uv_prediction mode n.v) (v_block luma c) (v_block luma d) (λ r s k _ _ _. same _ (omega arith))

-- ---- luma mode B
-- a sub-block that the change at k cannot reach is not k
not-k : (k a b : ℕ) → b < 4 → 4 * a + b ≡ k → Untouched (k / 4) (k % 4) a b → ⊥
not-k k a b h e u = ⊎_elim (λ l. omega arith) (λ l. omega arith) u

block_of : (b i : ℕ) → i < 16 → (0 + 16 * b + i) / 16 ≡ b
block_of b i l = omega arith

-- one before k in raster order cannot be reached
raster-untouched : (j k : ℕ) → j < k → Untouched (k / 4) (k % 4) (j / 4) (j % 4)
raster-untouched j k l = ⊎_elim inl (λ h. inr (omega arith)) (below (j / 4) (k / 4))

by-quarter : (k : ℕ) → 4 * (k / 4) + k % 4 ≡ k
by-quarter k = omega arith

module _ (subs : List IntraBmode) (there : Bool) (m : MbModes) (n : MbNeighbors) (c d : List ℤ) (r s : MbAnswer)
    (promise : r ≡ walk_b subs there m n c) (accepted : r.reply ≡ done) (promise2 : s ≡ walk_b subs there m n d) (accepted2 : s.reply ≡ done)
    (k : ℕ) (inside : k < 16) (only : SameButSub k c d) where
  -- the sub-block in row i and column j
  pub walk_b-untouched : (i j : ℕ) → i < 4 → j < 4 → Untouched (k / 4) (k % 4) i j → sub_of r.y (4 * i + j) ≡ sub_of s.y (4 * i + j)
  walk_b-untouched i j hi hj u =
      ruled-agree subs m.skip n.y c d r.y s.y (walk_b-ruled subs there m n c r promise accepted) (walk_b-ruled subs there m n d s promise2 accepted2)
      (Untouched (k / 4) (k % 4)) (untouched-closed (k / 4) (k % 4))
      (λ a b h p x l. only _ (λ e. not-k k a b h (sym (block_of (4 * a + b) x l) ∙ e) p)) i j hi hj u

  pub walk_b-before : (j : ℕ) → j < k → sub_of r.y j ≡ sub_of s.y j
  walk_b-before j l = rw (by-quarter j) at (walk_b-untouched (j / 4) (j % 4) (omega arith) (omega arith) (raster-untouched j k l))

  pub walk_b-chroma : (r.u ≡ s.u) × (r.v ≡ s.v)
  walk_b-chroma =
      let e : (j : ℕ) → luma_of_b ≤ j → get_or c j (pos 0) ≡ get_or d j (pos 0) = λ j l. only j (λ q. omega arith) in
      let f = walk_b-chroma-ruled subs there m n c r promise accepted in
      let g = walk_b-chroma-ruled subs there m n d s promise2 accepted2 in
      (f.0 ∙ u-agree luma_of_b m.uv m.skip n c d e ∙ sym g.0, f.1 ∙ v-agree luma_of_b m.uv m.skip n c d e ∙ sym g.1)

-- ---- the 16x16 modes
non_b-luma : (m : MbModes) (n : MbNeighbors) (c : List ℤ) (r : MbAnswer) → r ≡ non_b m n c → r.reply ≡ done
    → r.y ≡ plane 16 m.skip (y_prediction m.y n.y) (seeded c)
unfolding whole_of y_whole
non_b-luma m n c r promise accepted = ap (λ (x : MbAnswer). x.y) (promise ∙ (non_b-accepted m n c (rw promise at accepted)).2)

-- the coefficients of another block
seeded-others : (k : ℕ) (c d : List ℤ) → SameButY k c d → (b : ℕ) → (b ≡ k → ⊥) → (i : ℕ) → i < 16 → seeded c b i ≡ seeded d b i
unfolding seeded
seeded-others k c d e b q zero l =
    ap (λ (z : List ℤ). get_or z b (pos 0))
    (iwht-ext (take 16 c) (take 16 d) λ j h. get_or-take 16 c j (pos 0) h ∙ e j (λ p. omega arith) ∙ sym (get_or-take 16 d j (pos 0) h))
seeded-others k c d e b q (suc i) l = e (16 + 16 * b + suc i) (λ p. q (omega arith))

-- one block of a plane
plane-others : (skip : Bool) (p : List ℕ) (x y : ℕ → ℕ → ℤ) (b : ℕ) → b < 16 → ((i : ℕ) → i < 16 → x b i ≡ y b i)
    → sub_of (plane 16 skip p x) b ≡ sub_of (plane 16 skip p y) b
unfolding plane sub_of
plane-others true p x y b h e = refl
plane-others false p x y b h e =
    table-ext 16 _ _ λ i l.
    let r : ℕ = 4 * (b / 4) + i / 4 in
    let s : ℕ = 4 * (b % 4) + i % 4 in
    let z : 16 / 4 * (r / 4) + s / 4 ≡ b = omega arith in
    let g : 16 * r + s ≡ r * 16 + s = omega arith in
    ap (λ (q : ℕ). get_or (added_blocks 16 p x) q 0) g ∙ added-at 16 p x r s (omega arith) (omega arith)
    ∙ ap (λ (t : ℤ). sum (get_or p (r * 16 + s) 0) t) (residue-ext (x (16 / 4 * (r / 4) + s / 4)) (y (16 / 4 * (r / 4) + s / 4)) (rw z e) (r % 4) (s % 4))
    ∙ sym (ap (λ (q : ℕ). get_or (added_blocks 16 p y) q 0) g ∙ added-at 16 p y r s (omega arith) (omega arith))

module _ (m : MbModes) (n : MbNeighbors) (c d : List ℤ) (r s : MbAnswer)
    (promise : r ≡ non_b m n c) (accepted : r.reply ≡ done) (promise2 : s ≡ non_b m n d) (accepted2 : s.reply ≡ done) where
  pub non_b-chroma : SameButLuma c d → (r.u ≡ s.u) × (r.v ≡ s.v)
  non_b-chroma e =
      let f = non_b-chroma-ruled m n c r promise accepted in
      let g = non_b-chroma-ruled m n d s promise2 accepted2 in
      (f.0 ∙ u-agree luma_of_16x16 m.uv m.skip n c d e ∙ sym g.0, f.1 ∙ v-agree luma_of_16x16 m.uv m.skip n c d e ∙ sym g.1)

  -- a Y block's coefficients are added to its own sixteen pixels only
  pub non_b-others : (k : ℕ) → SameButY k c d → (b : ℕ) → b < 16 → (b ≡ k → ⊥) → sub_of r.y b ≡ sub_of s.y b
  non_b-others k e b h q =
      rw (non_b-luma m n c r promise accepted, non_b-luma m n d s promise2 accepted2) (plane-others m.skip (y_prediction m.y n.y) (seeded c) (seeded d) b h (seeded-others k c d e b q))
