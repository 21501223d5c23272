-- `gathering::edges::column` meets its contract. Assumes nothing.
use Prim.Native.Nat.{◌+◌, ◌*◌}
use lib.ListN.{get_or}
use Rattle.std.proofs.Common.{rules}
use Rattle.lists.proofs.FromFn.{made-table}
use Rattle.gathering.proofs.edges.column.Goals as goal

pub returns : goal.returns
returns g c =
    let a = c.args in
    made-table _ _ (λ i. get_or a.plane.now (a.at + i * a.stride) 0) (λ i y q h. (search rules, search rules)) _ _ c.from_fn.ensures.items
