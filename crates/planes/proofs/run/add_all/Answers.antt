-- `planes::run::add_all` meets its contract: after k turns the first k pixels have their residues added. Assumes nothing.
use mathlib.Core.Path.{◌≡◌, refl}
use native.Mathlib.Omega.{arith}
use lib.ListN.{length}
use Rattle.lists.proofs.Table.{table_none, table-turn, table-next, table_done}
use borrow.Author.Rules.{rules}
use Rattle.planes.proofs.run.add_all.Goals as goal

pub loop-k-init : goal.loop-k-init
loop-k-init c = table_none _ _

pub loop-k-preserved : goal.loop-k-preserved
loop-k-preserved c =
    let l = c.loop-k in
    table-turn l.k _ c.sum.result c.args.px.now l.px l.invariant (rw (c.sum.ensures, table-next l.k _ 0 c.args.px.now l.px l.invariant) (search rules)) (omega arith)

pub returns : goal.returns
returns c =
    let l = c.loop-k in
    let full : l.k ≡ length c.args.px.now = omega arith in
    table_done _ _ c.args.px.now l.px (rw full at l.invariant) refl
