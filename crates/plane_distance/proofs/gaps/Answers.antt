-- `plane_distance::gaps` meets its contract. Assumes nothing.
use Rattle.std.proofs.Common.{rules}
use Rattle.plane_distance.specs.Apart.{apart_at}
use Rattle.lists.proofs.FromFn.{made-table}
use Rattle.plane_distance.proofs.gaps.Goals as goal

pub returns : goal.returns
unfolding apart_at
returns c = made-table _ _ _ (λ i y q k. search rules) _ 64 c.from_fn.ensures.items
