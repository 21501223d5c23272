use native.Mathlib.Omega.{arith}
use mathlib.Core.Path.{refl}
use Rattle.rfc6386.specs.LoopFilter.{own_edge}
use Rattle.edge_lines.proofs.Places.{own-room, outer-is}
use Rattle.edge_lines.proofs.luma.own_edge.Goals as goal

pub edge-requires : goal.edge-requires
edge-requires c = let p = c.requires in own-room _ _ _ _ p.0 c.args.direction (p.1 c.if-there.true) (omega arith)

pub returns-then-there : goal.returns-then-there
unfolding own_edge
returns-then-there c = rw (c.if-there.true, c.edge.ensures, c.outer_kind.ensures, outer-is) refl

pub returns-else-there : goal.returns-else-there
unfolding own_edge
returns-else-there c = rw c.if-there.false refl
