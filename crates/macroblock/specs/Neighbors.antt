-- The neighbour record with every part of every edge absent, its bytes 0.
use Rattle.std.specs.Prelude.{false, replicate}
use Rattle.macroblock.specs.declared.neighbors.LumaEdges.{LumaEdges}
use Rattle.macroblock.specs.declared.neighbors.ChromaEdges.{ChromaEdges}
use Rattle.macroblock.specs.declared.neighbors.MbNeighbors.{MbNeighbors}

unfoldable pub no_luma : LumaEdges
no_luma =
    record {
      row = replicate 21 0;
      topleft_there = false;
      above_there = false;
      above_right_there = false;
      left = replicate 16 0;
      left_there = false;
    }

unfoldable pub no_chroma : ChromaEdges
no_chroma =
    record {
      row = replicate 9 0;
      topleft_there = false;
      above_there = false;
      left = replicate 8 0;
      left_there = false;
    }

unfoldable pub absent : MbNeighbors
absent = record { y = no_luma; u = no_chroma; v = no_chroma }
