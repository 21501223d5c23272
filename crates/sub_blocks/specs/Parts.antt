-- The luma of a macroblock in mode B, with the count of its sums that were below 0 or above 255.
use Rattle.std.specs.Prelude.{ℕ, Bool, List, ℤ}
use Rattle.macroblock.specs.declared.modes.IntraBmode.{IntraBmode}
use Rattle.macroblock.specs.declared.neighbors.LumaEdges.{LumaEdges}
use Rattle.rfc6386.specs.Walk.{y_parts}
use Rattle.clipping.specs.Clipped.{y_parts_clipped}

unfoldable pub parts_drawn : List IntraBmode → Bool → LumaEdges → List ℤ → List ℕ × ℕ
parts_drawn modes skip e coeffs = (y_parts modes skip e coeffs, y_parts_clipped modes skip e coeffs)
