use Prim.Native.Nat.{◌-◌, ◌*◌}
use mathlib.Core.Path.{◌≡◌, ◌∙◌}
use native.Mathlib.Omega.{arith}
use lib.ListN.{length}
use Rattle.edge_lines.proofs.RowLines.{rows-broad, level-is}
use borrow.Author.Rules.{rules}
use Rattle.edge_lines.proofs.level.level_edge.Goals as goal

pub returns : goal.returns
returns c =
    let a = c.args in
    let r = c.requires in
    let size : length c.rows-b.result ≡ 128 = search rules in
    c.copy_rows.ensures
    ∙ level-is a.kind a.l 0 16 a.at (a.at - 4 * a.stride) a.stride (omega arith) r.1 (omega arith) a.y.now c.rows-b.result _
    r.2 (rw c.rows-b.ensures (rows-broad (a.at - 4 * a.stride) a.stride a.y.now)) size c.lines_edge.ensures
