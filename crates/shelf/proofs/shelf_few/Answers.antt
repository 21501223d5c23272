-- `shelf::shelf_few` meets its contract. Assumes nothing.
use mathlib.Core.Path.{◌≡◌}
use native.Mathlib.Omega.{arith}
use lib.ListN.{length}
use Rattle.shelf.proofs.Told.{few-told}
use Rattle.shelf.proofs.shelf_few.Goals as goal

pub returns : goal.returns
returns c =
    let n : length c.args.jobs ≡ 32 = omega (arith, c.well_formed) in
    few-told c.args.count c.args.jobs _ _ _ _ _ n (rw c.min.ensures at c.shelf.ensures)
