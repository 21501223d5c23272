-- A skipped macroblock is its prediction: each plane that is predicted whole, and in mode B each sub-block, predicted from the pixels of the
-- earlier ones, which are predictions too. Stated of an answer that meets the walker's promise. Assumes nothing.
use Prim.Native.Nat.{ℕ, ◌+◌, ◌*◌, ◌/◌, ◌%◌, ◌<◌}
use mathlib.Core.Path.{◌≡◌, ap, ◌∙◌}
use mathlib.Core.Bool.{Bool, true}
use mathlib.Core.List.{List}
use lib.IntN.{ℤ}
use lib.ListN.{get_or}
use Rattle.macroblock.specs.Reply.{done}
use Rattle.macroblock.specs.declared.modes.IntraBmode.{IntraBmode}
use Rattle.macroblock.specs.declared.modes.MbModes.{MbModes}
use Rattle.macroblock.specs.declared.neighbors.MbNeighbors.{MbNeighbors}
use Rattle.rfc6386.specs.Walk.{y_prediction, uv_prediction, start_of, sub_prediction, sub_pixels, walked}
use Rattle.rfc6386.proofs.Parts.{parts_at}
use Rattle.rfc6386.proofs.Unused.{y_whole-skipped, uv_plane-skipped}
use Rattle.reconstruct.specs.Answers.{MbAnswer, whole_of, parts_of, non_b, walk_b}
use Rattle.reconstruct.proofs.Replies.{non_b-accepted, walk_b-accepted}

module _ (m : MbModes) (n : MbNeighbors) (c : List ℤ) (r : MbAnswer) (promise : r ≡ non_b m n c) (accepted : r.reply ≡ done) (skipped : m.skip ≡ true) where
  is : r ≡ whole_of m.y m.uv true n c
  is = promise ∙ (non_b-accepted m n c (rw promise at accepted)).2 ∙ rw skipped

  pub non_b-skipped : (r.y ≡ y_prediction m.y n.y) × (r.u ≡ uv_prediction m.uv n.u) × (r.v ≡ uv_prediction m.uv n.v)
  unfolding whole_of
  non_b-skipped = (
    ap (λ (x : MbAnswer). x.y) is ∙ y_whole-skipped n.y c m.y,
    ap (λ (x : MbAnswer). x.u) is ∙ uv_plane-skipped n.u c m.uv 272,
    ap (λ (x : MbAnswer). x.v) is ∙ uv_plane-skipped n.v c m.uv 336,
  )

module _ (subs : List IntraBmode) (there : Bool) (m : MbModes) (n : MbNeighbors) (c : List ℤ) (r : MbAnswer)
    (promise : r ≡ walk_b subs there m n c) (accepted : r.reply ≡ done) (skipped : m.skip ≡ true) where
  is-parts : r ≡ parts_of subs m.uv true n c
  is-parts = promise ∙ (walk_b-accepted subs there m n c (rw promise at accepted)).2 ∙ rw skipped

  pub walk_b-skipped-chroma : (r.u ≡ uv_prediction m.uv n.u) × (r.v ≡ uv_prediction m.uv n.v)
  unfolding parts_of
  walk_b-skipped-chroma = (
    ap (λ (x : MbAnswer). x.u) is-parts ∙ uv_plane-skipped n.u c m.uv 256,
    ap (λ (x : MbAnswer). x.v) is-parts ∙ uv_plane-skipped n.v c m.uv 320,
  )

  -- row i and column j of sub-block k
  pub walk_b-skipped-luma : (k i j : ℕ) → k < 16 → i < 4 → j < 4
      → get_or r.y ((4 * (k / 4) + i) * 16 + (4 * (k % 4) + j)) 0 ≡ get_or (sub_prediction subs k (walked k subs true c (start_of n.y))) (4 * i + j) 0
  unfolding parts_of sub_pixels
  walk_b-skipped-luma k i j hk hi hj =
      ap (λ (x : MbAnswer). get_or x.y ((4 * (k / 4) + i) * 16 + (4 * (k % 4) + j)) 0) is-parts ∙ parts_at subs true n.y c k i j hk hi hj
