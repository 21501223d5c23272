-- `distance::side_ok` meets its contract. Assumes nothing.
use borrow.Author.Tests.{le-leb}
use mathlib.Core.Path.{◌≡◌}
use native.Mathlib.Omega.{arith}
use Rattle.distance.specs.Answer.{side_ok}
use Rattle.distance.proofs.side_ok.Goals as goal

pub returns-then-side-ge1 : goal.returns-then-side-ge1
unfolding side_ok
returns-then-side-ge1 c = rw (le-leb 1 c.args.side c.if-side-ge1.true)

pub returns-else-side-ge1 : goal.returns-else-side-ge1
unfolding side_ok
returns-else-side-ge1 c = let z : c.args.side ≡ 0 = omega arith in rw z
