-- `reconstruct::whole` meets its contract. Assumes nothing.
use mathlib.Core.Path.{refl, ◌∙◌}
use native.Mathlib.Omega.{arith}
use Rattle.clipping.proofs.Bounds.{y-whole-≤}
use Rattle.planes.specs.Planes.{y_drawn}
use Rattle.reconstruct.specs.Answers.{macroblock_of, whole_of}
use Rattle.reconstruct.proofs.whole.Goals as goal

pub with_chroma-requires : goal.with_chroma-requires
unfolding y_drawn
with_chroma-requires c = (rw c.y_whole-luma.ensures (y-whole-≤ _ _ _ _), omega arith)

pub returns : goal.returns
unfolding macroblock_of whole_of y_drawn
returns c = c.with_chroma.ensures ∙ rw c.y_whole-luma.ensures refl
