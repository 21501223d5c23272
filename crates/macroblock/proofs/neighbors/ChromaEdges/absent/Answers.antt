-- `macroblock::ChromaEdges::absent` meets its contract. Assumes nothing.
use mathlib.Core.Path.{refl}
use Rattle.macroblock.specs.Neighbors.{no_chroma}
use Rattle.macroblock.proofs.neighbors.ChromaEdges.absent.Goals as goal

pub returns : goal.returns
unfolding no_chroma
returns c = refl
