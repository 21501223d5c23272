-- `gathering::edges::border_row` meets its contract. Assumes nothing.
use Prim.Native.Nat.{◌+◌}
use Rattle.std.proofs.Common.{rules}
use Rattle.gathering.specs.Steps.{pixel_in}
use Rattle.lists.proofs.FromFn.{made-table}
use Rattle.gathering.proofs.edges.border_row.Goals as goal

pub returns : goal.returns
returns g c =
    let a = c.args in
    made-table _ _ (λ i. pixel_in a.row.now a.right.now (a.x + i)) (λ i y q h. (search rules, search rules)) _ _ c.from_fn.ensures.items
