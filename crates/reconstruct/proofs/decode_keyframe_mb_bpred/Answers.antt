-- `reconstruct::decode_keyframe_mb_bpred` meets its contract: by its two tests. Assumes nothing.
use mathlib.Core.Path.{◌≡◌, refl}
use mathlib.Core.Bool.{Bool, false}
use mathlib.Core.List.{List}
use borrow.Author.Tests.{eq-eqb, ne_eqb}
use lib.IntN.{ℤ}
use Rattle.macroblock.specs.Reply.{no_sub_modes}
use Rattle.macroblock.specs.declared.modes.IntraBmode.{IntraBmode}
use Rattle.macroblock.specs.declared.modes.MbModes.{MbModes}
use Rattle.macroblock.specs.declared.neighbors.MbNeighbors.{MbNeighbors}
use Rattle.reconstruct.specs.Answers.{refusal, walk_b}
use Rattle.reconstruct.proofs.decode_keyframe_mb_bpred.Goals as goal

-- without sub-block modes it is refused before the length is looked at
none_first : (modes : List IntraBmode) (there : Bool) (m : MbModes) (n : MbNeighbors) (coeffs : List ℤ) → there ≡ false
    → refusal no_sub_modes ≡ walk_b modes there m n coeffs
unfolding walk_b
none_first modes there m n coeffs e = rw e refl

pub returns-then-not-sub_modes_there : goal.returns-then-not-sub_modes_there
returns-then-not-sub_modes_there c = none_first _ _ _ _ _ (c.if-not-sub_modes_there.true)

pub returns-then-coeffs-ne384 : goal.returns-then-coeffs-ne384
unfolding walk_b
returns-then-coeffs-ne384 c =
    rw (c.if-not-sub_modes_there.false, ne_eqb _ _ c.if-coeffs-ne384.true) refl

pub returns : goal.returns
unfolding walk_b
returns c = rw (c.if-not-sub_modes_there.false, eq-eqb _ _ c.if-coeffs-ne384.false) c.parts.ensures
