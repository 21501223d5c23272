-- `work_buffer::luma::luma_of` meets its contract: after r turns the first r rows are the macroblock's. Assumes nothing.
use mathlib.Core.Path.{◌≡◌, refl, ◌∙◌}
use native.Mathlib.Omega.{arith}
use lib.ListN.{replicate}
use Rattle.lists.proofs.Rows.{rows_none, rows-turn, rows-done}
use Rattle.rfc6386.specs.Walk.{luma_of}
use Rattle.work_buffer.proofs.ReadOut.{part-is}
use Rattle.work_buffer.proofs.luma.luma_of.Goals as goal

pub loop-r-init : goal.loop-r-init
loop-r-init c = (omega arith, rows_none _ _ _)

pub loop-r-preserved : goal.loop-r-preserved
loop-r-preserved c =
    (omega arith, rows-turn _ _ _ _ _ _ c.loop-r.invariant.1 (c.copy_from_slice.ensures.after ∙ part-is _ _ _ (omega arith)))

pub returns : goal.returns
unfolding luma_of
returns c =
    let e : c.loop-r.r ≡ 16 = omega arith in
    rows-done _ _ _ (replicate 256 0) _ (rw e at c.loop-r.invariant.1) refl
