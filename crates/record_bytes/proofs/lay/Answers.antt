-- `record_bytes::lay` meets its contract. Assumes nothing.
use Prim.Native.Nat.{◌+◌, ◌-◌}
use mathlib.Core.Path.{◌≡◌, refl}
use native.Mathlib.Omega.{arith}
use lib.ListN.{length}
use Rattle.record_bytes.specs.Steps.{laid_at}
use Rattle.record_bytes.proofs.Laid.{whole_part}
use Rattle.record_bytes.proofs.lay.Goals as goal

pub returns : goal.returns
unfolding laid_at
returns g c =
    let a = c.args in
    let e : a.at + g.row.N - a.at ≡ g.row.N = omega arith in
    let n : length a.from ≡ g.row.N = omega arith in
    rw (e, c.copy_from_slice.ensures.after, whole_part _ _ n) refl
