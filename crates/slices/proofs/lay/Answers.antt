-- `slices::lay` meets its contract. Assumes nothing.
use mathlib.Core.Path.{◌≡◌}
use native.Mathlib.Omega.{arith}
use lib.ListN.{length}
use Rattle.slices.proofs.Laid.{laid}
use Rattle.slices.proofs.lay.Goals as goal

pub returns : goal.returns
returns c =
    let a = c.args in
    let ly : length a.y.now ≡ 256 = omega (arith, c.well_formed) in
    let lu : length a.u.now ≡ 64 = omega (arith, c.well_formed) in
    let lv : length a.v.now ≡ 64 = omega (arith, c.well_formed) in
    laid a.to.now a.y.now a.u.now a.v.now c.requires ly lu lv _ _ _ c.put.ensures c.put-2.ensures c.put-3.ensures
