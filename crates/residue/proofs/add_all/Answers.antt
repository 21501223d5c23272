-- `residue::add_all` meets its contract. Assumes nothing.
use mathlib.Core.Path.{◌≡◌}
use native.Mathlib.Omega.{arith}
use lib.ListN.{length}
use Rattle.lists.proofs.Table.{table_none}
use Rattle.residue.proofs.Sums.{sum-turn, sum_done}
use borrow.Author.Rules.{rules}
use Rattle.residue.proofs.add_all.Goals as goal

pub loop-i-init : goal.loop-i-init
loop-i-init c = table_none _ _

pub loop-i-preserved : goal.loop-i-preserved
loop-i-preserved c =
    let a = c.args in
    sum-turn a.prediction.now a.residue.now c.loop-i.i _ a.out.now c.loop-i.out c.loop-i.invariant (search rules) c.sum.ensures (omega arith)

pub returns : goal.returns
returns c =
    let i = c.loop-i in
    let a = c.args in
    let full : i.i ≡ length a.prediction.now = omega arith in
    sum_done a.prediction.now a.residue.now (length a.prediction.now) a.out.now i.out (rw full at i.invariant) c.requires.1
