use Prim.Native.Nat.{◌+◌, ◌*◌}
use mathlib.Core.Path.{◌≡◌, refl, ◌∙◌}
use native.Mathlib.Omega.{arith}
use Rattle.lists.specs.Lists.{turns}
use Rattle.lists.proofs.Turns.{turns-step, turns-done}
use Rattle.rfc6386.specs.LoopFilter.{inner_edges}
use Rattle.edge_lines.specs.Sides.{across}
use Rattle.edge_lines.proofs.Places.{inner-room, inner-is, square-same}
use Rattle.edge_lines.proofs.luma.inner_edges.Goals as goal

pub loop-j-init : goal.loop-j-init
unfolding turns
loop-j-init c = (omega arith, refl, refl)

pub edge-requires : goal.edge-requires
edge-requires c =
    let i = c.loop-j.invariant in
    let t = c.loop-j-test.true in
    let e : c.args.at + (c.loop-j.j + 1) * (4 * c.across-step.result) ≡ c.args.at + 4 * (c.loop-j.j + 1) * across c.args.direction c.args.stride =
    rw c.across-step.ensures (omega arith) in
    rw e (inner-room c.loop-j.y 16 c.args.at c.args.stride (square-same i.1 c.requires) c.args.direction c.loop-j.j (omega arith))

pub loop-j-preserved : goal.loop-j-preserved
loop-j-preserved c =
    let i = c.loop-j.invariant in
    let e : c.args.at + (c.loop-j.j + 1) * (4 * c.across-step.result) ≡ c.args.at + 4 * (c.loop-j.j + 1) * across c.args.direction c.args.stride =
    rw c.across-step.ensures (omega arith) in
    (omega arith, c.edge.auto.y ∙ i.1, turns-step _ _ _ _ _ i.2 (c.edge.ensures ∙ rw (e, c.inner_kind.ensures, inner-is) refl))

pub returns-after-loop-j : goal.returns-after-loop-j
unfolding inner_edges
returns-after-loop-j c =
    rw c.if-inner.true (turns-done _ _ _ _ _ c.loop-j.invariant.2 c.loop-j.invariant.0 c.loop-j-test.false)

pub returns-else-inner : goal.returns-else-inner
unfolding inner_edges
returns-else-inner c = rw c.if-inner.false refl
