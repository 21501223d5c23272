-- `intra_edges::dc::edge_sum` meets its contract. Assumes nothing.
use mathlib.Core.Path.{◌≡◌, ◌∙◌}
use Rattle.std.specs.Prelude.{sum}
use Rattle.std.proofs.iter.runs.Sources.{sums}
use Rattle.std.proofs.Common.{rules}
use Rattle.intra_edges.proofs.Sums.{sum-is, sum-bytes}
use Rattle.intra_edges.proofs.dc.edge_sum.Goals as goal

pub returns : goal.returns
returns c =
    let e : c.sum.result ≡ sum c.args.edge.now = search (rules, sums) in
    let q = e ∙ sum-is c.args.edge.now in
    let h = sum-bytes c.args.edge.now (λ i. (c.type_inv.edge i).fits) in
    (q, rw q h)
