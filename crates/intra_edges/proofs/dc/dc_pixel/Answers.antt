-- `intra_edges::dc::dc_pixel` meets its contract: a case for each pair of marks. Assumes nothing.
use mathlib.Core.Path.{◌≡◌}
use Prim.Native.Nat.{◌*◌, ◌/◌}
use native.Mathlib.Omega.{arith}
use Rattle.rfc6386.specs.Edges.{dc_pixel}
use Rattle.intra_edges.proofs.dc.dc_pixel.Goals as goal

-- half of 2 n is n
pub returns-in-true-true : goal.returns-in-true-true
unfolding dc_pixel
returns-in-true-true g c =
    let n = g.row.N in
    let h : 2 * n / 2 ≡ n = omega arith in
    rw (c.in-true-true.is-0, c.in-true-true.is-1, c.mean.ensures, c.edge_sum.ensures.0, c.edge_sum-in-true-true.ensures.0, h)

pub returns-in-true-false : goal.returns-in-true-false
unfolding dc_pixel
returns-in-true-false g c =
    rw (c.in-true-false.is-0, c.in-true-false.is-1, c.mean-in-true-false.ensures, c.edge_sum-in-true-false.ensures.0)

pub returns-in-false-true : goal.returns-in-false-true
unfolding dc_pixel
returns-in-false-true g c =
    rw (c.in-false-true.is-0, c.in-false-true.is-1, c.mean-in-false-true.ensures, c.edge_sum-in-false-true.ensures.0)

pub returns-in-false-false : goal.returns-in-false-false
unfolding dc_pixel
returns-in-false-false g c = rw (c.in-false-false.is-0, c.in-false-false.is-1)
