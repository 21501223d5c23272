-- `distance::put_report` meets its contract. Assumes nothing.
use Prim.Native.Nat.{◌+◌, ◌-◌, ◌*◌}
use mathlib.Core.Path.{◌≡◌}
use native.Mathlib.Omega.{arith}
use Rattle.distance.specs.Stills.{put_report}
use Rattle.distance.proofs.put_report.Goals as goal

pub returns : goal.returns
unfolding put_report
returns c =
    let k = c.args.k in
    let e : 3 * k + 3 - 3 * k ≡ 3 = omega arith in
    rw (e, c.copy_from_slice.ensures.after, c.report.ensures)
