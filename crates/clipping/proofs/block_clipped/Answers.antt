-- `clipping::block_clipped` meets its contract: the chain adds what `over` gives of each pair. Assumes nothing.
use mathlib.Core.Path.{◌∙◌}
use native.Mathlib.Omega.{arith}
use Rattle.std.proofs.Common.{rules, tests}
use Rattle.std.specs.List.{zip}
use Rattle.std.proofs.lemmas.Iterator.{YieldsList-from_slice, YieldsList-from_map, YieldsList-from_zip}
use Rattle.std.proofs.lemmas.Iterator.Consumers.{YieldsList-at, sum_by_from_yields_List, fits_by_from_yields_list}
use Rattle.whole.proofs.Held.{held16, elem16}
use Rattle.clipping.proofs.Blocks.{counted, pairs-clipped}
use Rattle.clipping.proofs.Bounds.{block-≤}
use Rattle.clipping.proofs.block_clipped.Goals as goal

pub sum-requires-clause-fits : goal.sum-requires-clause-fits
sum-requires-clause-fits c =
    let p = c.args.prediction in
    let r = c.args.residue in
    fits_by_from_yields_list counted (zip p r) c.map.result _ (YieldsList-from_map _ counted (YieldsList-at c.map.ensures.source (YieldsList-from_zip (YieldsList-at c.zip.ensures.first (YieldsList-from_slice p (cc))) (YieldsList-from_slice r (cc)))) c.map.ensures.closure (λ x r q k. search (rules, tests))) (omega (arith, pairs-clipped p r (omega arith) (omega arith) (λ i. held16 _ (elem16 r c.well_formed.1.0.0 i c.well_formed.1.0.1.1)), block-≤ 16 p r))

pub returns : goal.returns
returns c =
    let p = c.args.prediction in
    let r = c.args.residue in
    sum_by_from_yields_List counted (zip p r) c.map.result _ c.sum.ensures.ran (YieldsList-from_map _ counted (YieldsList-at c.map.ensures.source (YieldsList-from_zip (YieldsList-at c.zip.ensures.first (YieldsList-from_slice p (cc))) (YieldsList-from_slice r (cc)))) c.map.ensures.closure (λ x r q k. search (rules, tests))) ∙ pairs-clipped p r (omega arith) (omega arith) (λ i. held16 _ (elem16 r c.well_formed.1.0.0 i c.well_formed.1.0.1.1))
