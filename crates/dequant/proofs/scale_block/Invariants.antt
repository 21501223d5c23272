-- `dequant::scale_block` meets its contract. Assumes nothing.
use mathlib.Core.Path.{◌≡◌}
use Prim.Native.Nat.{◌≤◌}
use lib.ListN.{length}
use Rattle.lists.specs.Lists.{turns}
use Rattle.dequant.proofs.Blocks.{later}
use Rattle.dequant.proofs.scale_block.Given as goal

abbrev pub invariant-loop-i : goal.invariant-loop-i
invariant-loop-i l = (l.i ≤ 15) × (length l.coeffs ≡ length l.initial.coeffs) × (l.coeffs ≡ turns l.i (later l.dc l.ac l.k) l.initial.coeffs)
