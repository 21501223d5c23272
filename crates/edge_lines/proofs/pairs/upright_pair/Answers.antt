use Prim.Native.Nat.{◌-◌}
use mathlib.Core.Path.{◌≡◌, refl, ◌∙◌}
use native.Mathlib.Omega.{arith}
use lib.ListN.{length}
use Rattle.edge_lines.proofs.Columns.{pair-u, pair-v, upright-is}
use borrow.Author.Rules.{rules}
use Rattle.edge_lines.proofs.pairs.upright_pair.Goals as goal

pub returns : goal.returns
returns c =
    let a = c.args in
    let r = c.requires in
    let size : length c.flat-b.result ≡ 128 = search rules in (
      c.copy_rows.ensures
          ∙ upright-is a.kind a.l 0 8 a.at (a.at - 4) a.stride (omega arith) r.1 (omega arith) 0 refl a.u.now c.pair.result c.flat-b.result _ c.tall-o.result
          r.2 (rw c.pair.ensures (pair-u (a.at - 4) a.stride a.u.now a.v.now)) c.flat-b.ensures size c.lines_edge.ensures c.tall-o.ensures,
      c.copy_rows-2.ensures
          ∙ upright-is a.kind a.l 8 8 a.at (a.at - 4) a.stride (omega arith) r.1 (omega arith) 64 refl a.v.now c.pair.result c.flat-b.result _ c.tall-o.result
          r.3 (rw c.pair.ensures (pair-v (a.at - 4) a.stride a.u.now a.v.now)) c.flat-b.ensures size c.lines_edge.ensures c.tall-o.ensures,
    )
