-- `dct::column_into` meets its contract. Assumes nothing.
use native.Mathlib.Omega.{arith}
use borrow.Author.Rules.{rules}
use lib.ListN.{length-set}
use Rattle.dct.proofs.Steps.{column-turned}
use Rattle.dct.proofs.column_into.Goals as goal

pub bounds-t-j1 : goal.bounds-t-j1
bounds-t-j1 c = simp length-set (omega arith)

pub bounds-t-j2 : goal.bounds-t-j2
bounds-t-j2 c = simp length-set (omega arith)

pub bounds-t-j3 : goal.bounds-t-j3
bounds-t-j3 c = simp length-set (omega arith)

pub returns : goal.returns
returns c =
    let a = c.args in
    column-turned a.w a.j a.s.now a.t.now c.line.result c.line.ensures
    (search rules) (search rules) (search rules) (search rules) (search rules) (search rules) (search rules) (search rules)
