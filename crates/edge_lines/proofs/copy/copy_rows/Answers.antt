use Prim.Native.Nat.{ℕ, ◌+◌, ◌*◌}
use mathlib.Core.Path.{◌≡◌, refl, ap, ◌∙◌}
use mathlib.Core.List.{List}
use native.Mathlib.Omega.{arith}
use lib.ListN.{length-set, length-replicate}
use Rattle.lists.specs.Lists.{turns}
use Rattle.lists.proofs.Table.{table-all}
use Rattle.lists.proofs.Turns.{turns-step, turns-done}
use Rattle.edge_lines.specs.Lines.{cut, pasted, rows_put}
use Rattle.edge_lines.proofs.copy.copy_rows.Goals as goal

pub loop-k-init : goal.loop-k-init
unfolding turns
loop-k-init g c = (omega arith, refl, refl)

pub loop-j-init : goal.loop-j-init
unfolding turns
loop-j-init g c = (omega arith, length-replicate _ _, refl)

pub loop-j-preserved : goal.loop-j-preserved
loop-j-preserved g c =
    let i = c.loop-j.invariant in
    (omega arith, simp length-set i.1, turns-step _ _ _ _ _ i.2 refl)

pub loop-i-init : goal.loop-i-init
unfolding turns
loop-i-init g c = (omega arith, refl, refl)

pub loop-i-preserved : goal.loop-i-preserved
loop-i-preserved g c =
    let i = c.loop-i.invariant in
    (omega arith, simp length-set i.1, turns-step _ _ _ _ _ i.2 refl)

pub loop-k-preserved : goal.loop-k-preserved
unfolding pasted
loop-k-preserved g c =
    let i = c.loop-k.invariant in
    let l = c.loop-i.invariant in
    let r = c.loop-j.invariant in
    let a = c.args in
    let row : c.loop-j.row ≡ cut g.row.W (a.from + c.loop-k.k * a.step) a.o.now =
    turns-done _ _ _ _ _ r.2 r.0 c.loop-j-test.false ∙ table-all g.row.W _ _ (length-replicate _ _) in
    let laid = turns-done _ _ _ _ _ l.2 l.0 c.loop-i-test.false in
    (omega arith, l.1 ∙ i.1, turns-step _ _ _ _ _ i.2 (laid ∙ ap (λ (q : List ℕ). pasted g.row.W (a.at + c.loop-k.k * a.stride) q c.loop-k.p) row))

pub returns : goal.returns
unfolding rows_put
returns g c = turns-done _ _ _ _ _ c.loop-k.invariant.2 c.loop-k.invariant.0 c.loop-k-test.false
