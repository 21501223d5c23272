-- `shelf::shelf` meets its contract. Assumes nothing.
use mathlib.Core.Path.{◌≡◌, sym}
use native.Mathlib.Omega.{arith}
use lib.ListN.{length}
use Rattle.std.proofs.lemmas.Result.{err_from_is_err_and}
use Rattle.shelf_items.proofs.Turns.{out-zero, replies-zero, count-zero}
use Rattle.shelf_items.proofs.Answered.{begun-fits}
use Rattle.shelf.proofs.Told.{turned, jobs-told, jobs-refused}
use Rattle.shelf.proofs.shelf.Goals as goal

pub returns-in_err-begin : goal.returns-in_err-begin
returns-in_err-begin c =
    let p = err_from_is_err_and c.from_residual.result c.from_residual.ensures.1 in
    rw (p.1, p.2) (jobs-refused _ _ _ _ _ _ _ c.in_err-begin.ensures.0 c.in_err-begin.ensures.1)

pub loop-i-init : goal.loop-i-init
loop-i-init c = record { planes = sym (out-zero _ _); told = sym (replies-zero _ _); counted = sym (count-zero _ _) }

pub loop-i-preserved : goal.loop-i-preserved
loop-i-preserved c =
    let i = c.loop-i.invariant in
    let e = c.in_ok-begin.ensures in
    let t = turned _ _ _ _ _ c.args.clipped.now (begun-fits _ _ _ _ _ _ _ e.0) c.loop-i.i _ e.1 c.loop-i-test.true i.planes i.told i.counted
    c.loop-i.auto.out c.loop-i.auto.replies c.put_job.ensures in
    record { planes = t.0; told = t.1; counted = t.2 }

pub returns : goal.returns
returns c =
    let i = c.loop-i.invariant in
    let e = c.in_ok-begin.ensures in
    let full : c.loop-i.i ≡ length c.args.jobs.now = omega arith in
    jobs-told _ _ _ _ _ _ (begun-fits _ _ _ _ _ _ _ e.0) (rw full at i.planes) (rw full at i.told) e.1 (rw full at i.counted)
