-- `dct::row_into` meets its contract. Assumes nothing.
use native.Mathlib.Omega.{arith}
use borrow.Author.Rules.{rules}
use lib.ListN.{length-set}
use Rattle.dct.proofs.Steps.{row-turned}
use Rattle.dct.proofs.row_into.Goals as goal

pub bounds-o-q1 : goal.bounds-o-q1
bounds-o-q1 c = simp length-set (omega arith)

pub bounds-o-q2 : goal.bounds-o-q2
bounds-o-q2 c = simp length-set (omega arith)

pub bounds-o-q3 : goal.bounds-o-q3
bounds-o-q3 c = simp length-set (omega arith)

pub returns : goal.returns
returns c =
    let a = c.args in
    row-turned a.q a.t.now a.o.now c.row.result c.row.ensures
    (search rules) (search rules) (search rules) (search rules) (search rules) (search rules) (search rules) (search rules)
