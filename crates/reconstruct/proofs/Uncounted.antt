-- Nothing is counted of a macroblock that is skipped, or refused. Assumes nothing.
use mathlib.Core.Path.{◌≡◌, refl}
use mathlib.Core.Bool.{Bool, true, false}
use mathlib.Core.List.{List}
use Prim.Native.Nat.{ℕ}
use lib.Dec.{eqb}
use lib.IntN.{ℤ}
use lib.ListN.{length}
use Rattle.lists.specs.Lists.{pick}
use Rattle.macroblock.specs.Reply.{done, wrong_length, b_pred, no_sub_modes}
use Rattle.macroblock.specs.declared.modes.IntraBmode.{IntraBmode}
use Rattle.macroblock.specs.declared.modes.MbModes.{MbModes}
use Rattle.macroblock.specs.declared.neighbors.MbNeighbors.{MbNeighbors}
use Rattle.rfc6386.specs.Edges.{is_b}
use Rattle.clipping.proofs.Skipped.{macroblock-skipped, macroblock-B-skipped}
use Rattle.reconstruct.specs.Answers.{MbAnswer, refusal, whole_of, parts_of, non_b, walk_b}

-- ---- an answer that counts nothing; one that counts nothing where it is refused
abbrev pub Zero : MbAnswer → Type 0
Zero r = r.clipped ≡ 0

abbrev pub Quiet : MbAnswer → Type 0
Quiet r = (r.reply ≡ done → ⊥) → r.clipped ≡ 0

pub zero-pick : (b : Bool) (x y : MbAnswer) → Zero x → Zero y → Zero (pick b x y)
zero-pick true x y p q = p
zero-pick false x y p q = q

pub quiet-pick : (b : Bool) (x y : MbAnswer) → Quiet x → Quiet y → Quiet (pick b x y)
quiet-pick true x y p q = p
quiet-pick false x y p q = q

pub refusal-zero : (k : ℕ) → Zero (refusal k)
unfolding refusal
refusal-zero k = refl

module _ (m : MbModes) (n : MbNeighbors) (c : List ℤ) where
  whole-quiet : Quiet (whole_of m.y m.uv m.skip n c)
  unfolding whole_of
  whole-quiet k = absurd (k refl)

  pub non_b-refused-counts-nothing : Quiet (non_b m n c)
  unfolding non_b
  non_b-refused-counts-nothing =
      quiet-pick (is_b m.y) (refusal b_pred) (pick (eqb (length c) 400) (whole_of m.y m.uv m.skip n c) (refusal wrong_length)) (λ k. refusal-zero b_pred)
      (quiet-pick (eqb (length c) 400) (whole_of m.y m.uv m.skip n c) (refusal wrong_length) whole-quiet (λ k. refusal-zero wrong_length))

  whole-zero : m.skip ≡ true → Zero (whole_of m.y m.uv m.skip n c)
  unfolding whole_of
  whole-zero e = rw e (macroblock-skipped m.uv n c 272 336 m.y)

  pub non_b-skipped-counts-nothing : m.skip ≡ true → Zero (non_b m n c)
  unfolding non_b
  non_b-skipped-counts-nothing e =
      zero-pick (is_b m.y) (refusal b_pred) (pick (eqb (length c) 400) (whole_of m.y m.uv m.skip n c) (refusal wrong_length)) (refusal-zero b_pred)
      (zero-pick (eqb (length c) 400) (whole_of m.y m.uv m.skip n c) (refusal wrong_length) (whole-zero e) (refusal-zero wrong_length))

  module _ (subs : List IntraBmode) (there : Bool) where
    parts-quiet : Quiet (parts_of subs m.uv m.skip n c)
    unfolding parts_of
    parts-quiet k = absurd (k refl)

    pub walk_b-refused-counts-nothing : Quiet (walk_b subs there m n c)
    unfolding walk_b
    walk_b-refused-counts-nothing =
        quiet-pick there (pick (eqb (length c) 384) (parts_of subs m.uv m.skip n c) (refusal wrong_length)) (refusal no_sub_modes)
        (quiet-pick (eqb (length c) 384) (parts_of subs m.uv m.skip n c) (refusal wrong_length) parts-quiet (λ k. refusal-zero wrong_length))
        (λ k. refusal-zero no_sub_modes)

    parts-zero : m.skip ≡ true → Zero (parts_of subs m.uv m.skip n c)
    unfolding parts_of
    parts-zero e = rw e (macroblock-B-skipped m.uv n c 256 320 subs)

    pub walk_b-skipped-counts-nothing : m.skip ≡ true → Zero (walk_b subs there m n c)
    unfolding walk_b
    walk_b-skipped-counts-nothing e =
        zero-pick there (pick (eqb (length c) 384) (parts_of subs m.uv m.skip n c) (refusal wrong_length)) (refusal no_sub_modes)
        (zero-pick (eqb (length c) 384) (parts_of subs m.uv m.skip n c) (refusal wrong_length) (parts-zero e) (refusal-zero wrong_length))
        (refusal-zero no_sub_modes)
