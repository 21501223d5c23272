use Prim.Native.Nat.{◌-◌, ◌*◌}
use mathlib.Core.Path.{◌≡◌, ◌∙◌}
use native.Mathlib.Omega.{arith}
use lib.ListN.{length}
use Rattle.edge_lines.proofs.RowLines.{rows-u, rows-v, level-is}
use borrow.Author.Rules.{rules}
use Rattle.edge_lines.proofs.pairs.level_pair.Goals as goal

pub pair-b-requires : goal.pair-b-requires
pair-b-requires c = let r = c.requires in (r.2, r.3, omega arith)

pub returns : goal.returns
returns c =
    let a = c.args in
    let r = c.requires in
    let size : length c.pair-b.result ≡ 128 = search rules in (
      c.copy_rows.ensures
          ∙ level-is a.kind a.l 0 8 a.at (a.at - 4 * a.stride) a.stride (omega arith) r.1 (omega arith) a.u.now c.pair-b.result _
          r.2 (rw c.pair-b.ensures (rows-u (a.at - 4 * a.stride) a.stride a.u.now a.v.now)) size c.lines_edge.ensures,
      c.copy_rows-2.ensures
          ∙ level-is a.kind a.l 8 8 a.at (a.at - 4 * a.stride) a.stride (omega arith) r.1 (omega arith) a.v.now c.pair-b.result _
          r.3 (rw c.pair-b.ensures (rows-v (a.at - 4 * a.stride) a.stride a.u.now a.v.now)) size c.lines_edge.ensures,
    )
