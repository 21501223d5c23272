-- `slices::copy` meets its contract. Assumes nothing.
use mathlib.Core.Path.{refl, sym, ◌∙◌}
use native.Mathlib.Omega.{arith}
use lib.Seq.{take_all}
use borrow.Author.Tests.{eq-eqb, ne_eqb}
use Rattle.std.proofs.lemmas.List.{take_more_set, take_more}
use Rattle.slices.specs.Copies.{copied}
use Rattle.slices.proofs.copy.Goals as goal

pub loop-i-init : goal.loop-i-init
loop-i-init g c = refl

pub loop-i-preserved : goal.loop-i-preserved
loop-i-preserved g c =
    let l = c.loop-i in
    let v = c.index-from-i.result in
    rw (take_more_set l.to l.i v (omega arith), take_more c.args.from.now l.i v (omega arith), l.invariant, ← c.index-from-i.is) refl

pub returns-after-loop-i : goal.returns-after-loop-i
unfolding copied
returns-after-loop-i g c =
    let l = c.loop-i in
    rw (eq-eqb _ _ c.if-to-from.true) (sym (take_all l.i l.to (omega arith)) ∙ l.invariant ∙ take_all l.i c.args.from.now (omega arith))

pub returns-else-to-from : goal.returns-else-to-from
unfolding copied
returns-else-to-from g c = rw (ne_eqb _ _ c.if-to-from.false) refl
