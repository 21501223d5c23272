use Rattle.macroblock.specs.Neighbors.{absent}
use Rattle.macroblock.proofs.neighbors.MbNeighbors.absent.Goals as goal

-- src/neighbors.rt:112:5
pub returns : goal.returns
unfolding absent
returns c = cc
