-- `reconstruct::decode_keyframe_mb_non_bpred` meets its contract: by its two tests. Assumes nothing.
use mathlib.Core.Path.{◌≡◌, refl, sym, ◌∙◌}
use mathlib.Core.Bool.{true}
use mathlib.Core.List.{List}
use borrow.Author.Tests.{eq-eqb, ne_eqb}
use lib.IntN.{ℤ}
use Rattle.macroblock.specs.Reply.{b_pred}
use Rattle.macroblock.specs.declared.modes.MbModes.{MbModes}
use Rattle.macroblock.specs.declared.neighbors.MbNeighbors.{MbNeighbors}
use Rattle.rfc6386.specs.Edges.{is_b}
use Rattle.reconstruct.specs.Answers.{refusal, non_b}
use Rattle.reconstruct.proofs.decode_keyframe_mb_non_bpred.Goals as goal

-- mode B is refused before the length is looked at
b-first : (m : MbModes) (n : MbNeighbors) (coeffs : List ℤ) → is_b m.y ≡ true → refusal b_pred ≡ non_b m n coeffs
unfolding non_b
b-first m n coeffs e = rw e refl

pub returns-then-is_b : goal.returns-then-is_b
returns-then-is_b c = b-first _ _ _ (sym c.is_b.ensures ∙ c.if-is_b.true)

pub returns-then-coeffs-ne400 : goal.returns-then-coeffs-ne400
unfolding non_b
returns-then-coeffs-ne400 c = rw (sym c.is_b.ensures ∙ c.if-is_b.false, ne_eqb _ _ c.if-coeffs-ne400.true) refl

pub returns : goal.returns
unfolding non_b
returns c = rw (sym c.is_b.ensures ∙ c.if-is_b.false, eq-eqb _ _ c.if-coeffs-ne400.false) c.whole.ensures
