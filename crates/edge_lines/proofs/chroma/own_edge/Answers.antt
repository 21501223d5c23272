use mathlib.Core.Path.{refl}
use native.Mathlib.Omega.{arith}
use Rattle.rfc6386.specs.LoopFilter.{own_edge}
use Rattle.edge_lines.proofs.Places.{own-room, outer-is}
use Rattle.edge_lines.proofs.chroma.own_edge.Goals as goal

pub edge-requires : goal.edge-requires
edge-requires c =
    let p = c.requires in
    let h = p.2 c.if-there.true in
    (own-room _ _ _ _ p.0 c.args.direction h (omega arith), own-room _ _ _ _ p.1 c.args.direction h (omega arith))

pub returns-then-there : goal.returns-then-there
unfolding own_edge
returns-then-there c =
    rw c.if-there.true (rw (c.edge.ensures.0, c.outer_kind.ensures, outer-is) refl, rw (c.edge.ensures.1, c.outer_kind.ensures, outer-is) refl)

pub returns-else-there : goal.returns-else-there
unfolding own_edge
returns-else-there c = rw c.if-there.false (refl, refl)
