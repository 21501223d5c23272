-- `planes::run::add_run` meets its contract. Assumes nothing.
use mathlib.Core.Path.{◌≡◌}
use Prim.Native.Nat.{◌+◌, ◌-◌}
use native.Mathlib.Omega.{arith}
use Rattle.planes.proofs.Runs.{run-back}
use Rattle.planes.proofs.run.add_run.Goals as goal

pub returns : goal.returns
returns c =
    let x = c.args in
    let e : x.at + x.n - x.at ≡ x.n = omega arith in
    rw (c.add_all.ensures, e) (run-back x.o.now x.start x.at x.n x.px.now (omega arith))
