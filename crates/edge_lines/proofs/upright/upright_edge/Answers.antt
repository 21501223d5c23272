use Prim.Native.Nat.{◌-◌}
use mathlib.Core.Path.{◌≡◌, refl, ◌∙◌}
use native.Mathlib.Omega.{arith}
use lib.ListN.{length}
use Rattle.edge_lines.proofs.Columns.{eights-tall, upright-is}
use borrow.Author.Rules.{rules}
use Rattle.edge_lines.proofs.upright.upright_edge.Goals as goal

pub returns : goal.returns
returns c =
    let a = c.args in
    let r = c.requires in
    let size : length c.flat-b.result ≡ 128 = search rules in
    c.copy_rows.ensures
    ∙ upright-is a.kind a.l 0 16 a.at (a.at - 4) a.stride (omega arith) r.1 (omega arith) 0 refl a.y.now c.eights.result c.flat-b.result _ c.tall-o.result
    r.2 (rw c.eights.ensures (eights-tall (a.at - 4) a.stride a.y.now)) c.flat-b.ensures size c.lines_edge.ensures c.tall-o.ensures
