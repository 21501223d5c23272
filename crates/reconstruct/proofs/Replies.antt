-- Which reply is given when.
--     non_b-reply, walk_b-reply          each number exactly where its test refuses and no earlier one did
--     non_b-accepted, walk_b-accepted    with reply 0 no test refused, and the answer is the three planes
--     walk_b-never-six                  the number 6 is not used: no window of a sub-block passes the end of the work buffer
--                                      (`Inside` of `sub_blocks`), so there is nothing that it could say
-- Assumes nothing.
use mathlib.Core.Path.{◌≡◌, refl}
use mathlib.Core.Bool.{Bool, true, false}
use mathlib.Core.List.{List}
use native.Mathlib.Omega.{arith}
use borrow.Author.Tests.{eqb-true}
use lib.Dec.{eqb}
use lib.IntN.{ℤ}
use lib.ListN.{length}
use Rattle.lists.specs.Lists.{pick}
use Rattle.macroblock.specs.Reply.{done, wrong_length, b_pred, no_sub_modes}
use Rattle.macroblock.specs.declared.modes.IntraBmode.{IntraBmode}
use Rattle.macroblock.specs.declared.modes.MbModes.{MbModes}
use Rattle.macroblock.specs.declared.neighbors.MbNeighbors.{MbNeighbors}
use Rattle.rfc6386.specs.Edges.{is_b}
use Rattle.reconstruct.specs.Answers.{MbAnswer, refusal, whole_of, parts_of, non_b, walk_b}

-- ---- the walker of the 16x16 modes
module _ (m : MbModes) (n : MbNeighbors) (c : List ℤ) where
  abbrev planes : MbAnswer
  planes = whole_of m.y m.uv m.skip n c

  whole_by : (b e : Bool) → (pick b (refusal b_pred) (pick e planes (refusal wrong_length))).reply ≡ done
      → (b ≡ false) × (e ≡ true) × (pick b (refusal b_pred) (pick e planes (refusal wrong_length)) ≡ planes)
  unfolding refusal
  whole_by true e q = absurd (omega arith)
  whole_by false true q = (refl, refl, refl)
  whole_by false false q = absurd (omega arith)

  pub non_b-accepted : (non_b m n c).reply ≡ done → (is_b m.y ≡ false) × (length c ≡ 400) × (non_b m n c ≡ planes)
  unfolding non_b
  non_b-accepted q = let s = whole_by (is_b m.y) (eqb (length c) 400) q in (s.0, eqb-true (length c) 400 s.1, s.2)

  reply-by : (b e : Bool) → (pick b (refusal b_pred) (pick e planes (refusal wrong_length))).reply ≡ pick b b_pred (pick e done wrong_length)
  unfolding refusal whole_of
  reply-by true e = refl
  reply-by false true = refl
  reply-by false false = refl

  pub non_b-reply : (non_b m n c).reply ≡ pick (is_b m.y) b_pred (pick (eqb (length c) 400) done wrong_length)
  unfolding non_b
  non_b-reply = reply-by (is_b m.y) (eqb (length c) 400)

-- ---- the walker of mode B
module _ (modes : List IntraBmode) (there : Bool) (m : MbModes) (n : MbNeighbors) (c : List ℤ) where
  abbrev parts : MbAnswer
  parts = parts_of modes m.uv m.skip n c

  abbrev tested : Bool → Bool → MbAnswer
  tested t e = pick t (pick e parts (refusal wrong_length)) (refusal no_sub_modes)

  parts-by : (t e : Bool) → (tested t e).reply ≡ done → (t ≡ true) × (e ≡ true) × (tested t e ≡ parts)
  unfolding refusal
  parts-by false e q = absurd (omega arith)
  parts-by true false q = absurd (omega arith)
  parts-by true true q = (refl, refl, refl)

  pub walk_b-accepted : (walk_b modes there m n c).reply ≡ done → (there ≡ true) × (length c ≡ 384) × (walk_b modes there m n c ≡ parts)
  unfolding walk_b
  walk_b-accepted q = let s = parts-by there (eqb (length c) 384) q in (s.0, eqb-true (length c) 384 s.1, s.2)

  reply-of : (t e : Bool) → (tested t e).reply ≡ pick t (pick e done wrong_length) no_sub_modes
  unfolding refusal parts_of
  reply-of false e = refl
  reply-of true false = refl
  reply-of true true = refl

  pub walk_b-reply : (walk_b modes there m n c).reply ≡ pick there (pick (eqb (length c) 384) done wrong_length) no_sub_modes
  unfolding walk_b
  walk_b-reply = reply-of there (eqb (length c) 384)

  replies-by : (t e : Bool) → (tested t e).reply ≡ 6 → ⊥
  unfolding refusal parts_of
  replies-by false e q = omega arith
  replies-by true false q = omega arith
  replies-by true true q = omega arith

  pub walk_b-never-six : (walk_b modes there m n c).reply ≡ 6 → ⊥
  unfolding walk_b
  walk_b-never-six = replies-by there (eqb (length c) 384)
