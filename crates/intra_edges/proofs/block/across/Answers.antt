-- `intra_edges::block::across` meets its contract: after r turns the first r rows are the rule's. Assumes nothing.
use Prim.Native.Nat.{ℕ, ◌+◌, ◌*◌, ◌≤◌}
use mathlib.Core.Path.{sym, ap, ◌∙◌}
use native.Mathlib.Omega.{arith}
use lib.ListN.{length, get_or, replicate}
use Rattle.lists.proofs.Rows.{rows_none, rows-turn, row_within, part_length}
use Rattle.lists.proofs.Table.{table_same}
use Rattle.intra_edges.proofs.block.across.Goals as goal

pub loop-r-init : goal.loop-r-init
loop-r-init c = (omega arith, rows_none _ _ _)

pub loop-r-preserved : goal.loop-r-preserved
loop-r-preserved c =
    let n = length c.args.edge.now in
    let h = row_within n n c.loop-r.r c.loop-r-test.true in
    let k : c.loop-r.r * n + n ≤ length c.loop-r.out = omega (arith, c.requires) in
    let e = c.fill.ensures.after (λ y h. h) ∙ ap (λ (m : ℕ). replicate m (get_or c.args.edge.now c.loop-r.r 0)) (part_length _ _ _ k) in
    (omega arith, rows-turn _ _ _ _ _ _ c.loop-r.invariant.1 (e ∙ sym (table_same _ _)))
