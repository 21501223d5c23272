-- `dct::widen_into` meets its contract: each turn of the loop stores one number. Assumes nothing.
use Prim.Native.Nat.{◌+◌}
use mathlib.Core.Path.{◌≡◌}
use borrow.Author.Rules.{rules}
use native.Mathlib.Omega.{arith}
use Rattle.lists.proofs.Table.{table_none, table-turn}
use Rattle.whole.proofs.Held.{R32}
use Rattle.rfc6386.specs.Dct.{entry}
use Rattle.dct.specs.Turns.{widened}
use Rattle.dct.proofs.Steps.{part-stored}
use Rattle.dct.proofs.widen_into.Goals as goal

pub loop-i-init : goal.loop-i-init
loop-i-init c = table_none _ _

pub loop-i-preserved : goal.loop-i-preserved
loop-i-preserved c =
    let a = c.args in
    let e : R32 c.from.result ≡ entry a.l.now (a.from + c.loop-i.i) = search rules in
    table-turn c.loop-i.i (λ k. entry a.l.now (a.from + k)) _ _ _ c.loop-i.invariant e c.loop-i-test.true

pub returns : goal.returns
unfolding widened
returns c =
    let a = c.args in
    part-stored (λ k. entry a.l.now (a.from + k)) a.n _ a.to c.loop-i.i a.s.now c.loop-i.x-items (omega arith) c.requires.0 (omega arith) c.loop-i.invariant
