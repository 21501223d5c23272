-- `reconstruct::parts` meets its contract. Assumes nothing.
use mathlib.Core.Path.{refl, ◌∙◌}
use native.Mathlib.Omega.{arith}
use Rattle.clipping.proofs.Bounds.{y-parts-≤}
use Rattle.sub_blocks.specs.Parts.{parts_drawn}
use Rattle.reconstruct.specs.Answers.{macroblock_of, parts_of}
use Rattle.reconstruct.proofs.parts.Goals as goal

pub with_chroma-requires : goal.with_chroma-requires
unfolding parts_drawn
with_chroma-requires c = (rw c.luma_parts-luma.ensures (y-parts-≤ _ _ _ _), omega arith)

pub returns : goal.returns
unfolding macroblock_of parts_of parts_drawn
returns c = c.with_chroma.ensures ∙ rw c.luma_parts-luma.ensures refl
