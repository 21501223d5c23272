-- `gathering::edges::left_column` meets its contract: right of the first column the plane has the whole column. Assumes nothing.
use mathlib.Core.Path.{refl}
use native.Mathlib.Omega.{arith}
use borrow.Author.Tests.{lt-ltb, le-ltb}
use Rattle.rfc6386.specs.Picture.{left_of}
use Rattle.gathering.proofs.edges.left_column.Goals as goal

pub returns-then-col-eq0 : goal.returns-then-col-eq0
unfolding left_of
returns-then-col-eq0 g c = rw (le-ltb 0 c.args.col (omega arith)) refl

pub returns : goal.returns
unfolding left_of
returns g c = rw (lt-ltb 0 c.args.col (omega arith)) c.column.ensures
