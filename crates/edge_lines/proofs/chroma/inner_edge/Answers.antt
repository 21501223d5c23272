use Prim.Native.Nat.{◌+◌, ◌*◌}
use mathlib.Core.Path.{◌≡◌, refl, ◌∙◌}
use native.Mathlib.Omega.{arith}
use Rattle.rfc6386.specs.LoopFilter.{inner_edges}
use Rattle.edge_lines.specs.Sides.{across, along}
use Rattle.edge_lines.proofs.Places.{inner-room, inner-is, one}
use Rattle.edge_lines.proofs.chroma.inner_edge.Goals as goal

pub edge-requires : goal.edge-requires
edge-requires c =
    let a = c.args in
    let p = c.requires in
    let e : a.at + 4 * c.across.result ≡ a.at + 4 * (0 + 1) * across a.direction a.stride = rw c.across.ensures (omega arith) in
    rw e (inner-room a.u.now 8 a.at a.stride p.0 a.direction 0 (omega arith), inner-room a.v.now 8 a.at a.stride p.1 a.direction 0 (omega arith))

pub returns-then-inner : goal.returns-then-inner
unfolding inner_edges
returns-then-inner c =
    let a = c.args in
    let e : a.at + 4 * c.across.result ≡ a.at + 4 * (0 + 1) * across a.direction a.stride = rw c.across.ensures (omega arith) in
    rw c.if-inner.true (
      c.edge.ensures.0 ∙ rw (c.inner_kind.ensures, inner-is) (one _ a.rule.inner 8 a.at (across a.direction a.stride) (along a.direction a.stride) a.u.now _ e),
      c.edge.ensures.1 ∙ rw (c.inner_kind.ensures, inner-is) (one _ a.rule.inner 8 a.at (across a.direction a.stride) (along a.direction a.stride) a.v.now _ e),
    )

pub returns-else-inner : goal.returns-else-inner
unfolding inner_edges
returns-else-inner c = rw c.if-inner.false (refl, refl)
