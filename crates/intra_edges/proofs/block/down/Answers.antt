-- `intra_edges::block::down` meets its contract: after r turns the first r rows are the rule's. Assumes nothing.
use Prim.Native.Nat.{ℕ}
use mathlib.Core.Path.{◌≡◌, sym, ◌∙◌}
use mathlib.Core.List.{List}
use native.Mathlib.Nat.{le_refl}
use native.Mathlib.Omega.{arith}
use lib.ListN.{length, get_or}
use lib.Seq.{take_all}
use Rattle.lists.specs.Lists.{table}
use Rattle.lists.proofs.Rows.{rows_none, rows-turn}
use Rattle.lists.proofs.Table.{table-take}
use Rattle.intra_edges.proofs.block.down.Goals as goal

-- a list is its values, one after the other
as-table : (s : List ℕ) → s ≡ table (length s) (λ k. get_or s k 0)
as-table s = sym (table-take (length s) s 0 (le_refl (length s)) ∙ take_all (length s) s (le_refl (length s)))

pub loop-r-init : goal.loop-r-init
loop-r-init c = (omega arith, rows_none _ _ _)

pub loop-r-preserved : goal.loop-r-preserved
loop-r-preserved c =
    (omega arith, rows-turn _ _ _ _ _ _ c.loop-r.invariant.1 (c.copy_from_slice.ensures.after ∙ as-table _))
