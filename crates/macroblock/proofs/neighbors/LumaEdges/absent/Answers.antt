-- `macroblock::LumaEdges::absent` meets its contract. Assumes nothing.
use mathlib.Core.Path.{refl}
use Rattle.macroblock.specs.Neighbors.{no_luma}
use Rattle.macroblock.proofs.neighbors.LumaEdges.absent.Goals as goal

pub returns : goal.returns
unfolding no_luma
returns c = refl
