-- `planes::run::run_clipped` meets its contract: the chain adds what `over` gives of each pair. Assumes nothing.
use mathlib.Core.Path.{◌≡◌, ◌∙◌}
use Prim.Native.Nat.{◌+◌, ◌-◌}
use native.Mathlib.Omega.{arith}
use lib.ListN.{take, drop}
use borrow.Author.Rules.{rules}
use Rattle.std.proofs.Common.{tests}
use Rattle.std.specs.List.{zip}
use Rattle.std.proofs.lemmas.Iterator.{YieldsList-from_slice, YieldsList-from_map, YieldsList-from_zip}
use Rattle.std.proofs.lemmas.Iterator.Consumers.{YieldsList-at, sum_by_from_yields_List, fits_by_from_yields_list}
use Rattle.planes.proofs.Counts.{counted, run-≤, run-pairs}
use Rattle.planes.proofs.run.run_clipped.Goals as goal

pub sum-requires-clause-fits : goal.sum-requires-clause-fits
sum-requires-clause-fits c =
    let x = c.args in
    let ps = take (x.at + x.n - x.at) (drop x.at x.px.now) in
    let rs = take (x.start + x.n - x.start) (drop x.start x.o.now) in
    let up : x.at + x.n - x.at ≡ x.n = omega arith in
    let down : x.start + x.n - x.start ≡ x.n = omega arith in
    let sums = run-pairs x.px.now x.o.now x.at x.start x.n (omega arith) (omega arith) in
    fits_by_from_yields_list counted (zip ps rs) c.map.result _ (YieldsList-from_map _ counted (YieldsList-at c.map.ensures.source (YieldsList-from_zip (YieldsList-at c.zip.ensures.first (YieldsList-from_slice ps c.iter.ensures.rest)) (YieldsList-from_slice rs c.zip.ensures.second.0))) c.map.ensures.closure (λ x r q k. search (rules, tests)))
    (rw (up, down, sums) (omega (arith, run-≤ x.px.now x.o.now x.at x.start x.n)))

pub returns : goal.returns
returns c =
    let x = c.args in
    let ps = take (x.at + x.n - x.at) (drop x.at x.px.now) in
    let rs = take (x.start + x.n - x.start) (drop x.start x.o.now) in
    let up : x.at + x.n - x.at ≡ x.n = omega arith in
    let down : x.start + x.n - x.start ≡ x.n = omega arith in
    sum_by_from_yields_List counted (zip ps rs) c.map.result _ c.sum.ensures.ran (YieldsList-from_map _ counted (YieldsList-at c.map.ensures.source (YieldsList-from_zip (YieldsList-at c.zip.ensures.first (YieldsList-from_slice ps c.iter.ensures.rest)) (YieldsList-from_slice rs c.zip.ensures.second.0))) c.map.ensures.closure (λ x r q k. search (rules, tests)))
    ∙ rw (up, down) (run-pairs x.px.now x.o.now x.at x.start x.n (omega arith) (omega arith))
