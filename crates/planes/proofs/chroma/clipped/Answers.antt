-- `planes::chroma::clipped` meets its contract: the chain adds the counts of the eight rows. Assumes nothing.
use mathlib.Core.Path.{◌≡◌, refl, ◌∙◌}
use Prim.Native.Nat.{ℕ}
use native.Mathlib.Omega.{arith}
use borrow.Author.Rules.{rules}
use Rattle.std.proofs.Common.{tests}
use Rattle.std.specs.List.{sum_by, range_with_len}
use Rattle.std.proofs.lemmas.Iterator.{YieldsList-from_range, YieldsList-from_map}
use Rattle.std.proofs.lemmas.Iterator.Consumers.{sum_by_from_yields_List, fits_by_from_yields_list}
use Rattle.lists.specs.Lists.{total}
use Rattle.lists.proofs.Total.{total-≤}
use Rattle.planes.specs.Steps.{row_clipped}
use Rattle.planes.proofs.Counts.{run-≤}
use Rattle.planes.proofs.chroma.clipped.Goals as goal

-- eight rows, one after another
eight-rows : (f : ℕ → ℕ) → sum_by f (range_with_len 0 8) ≡ total 8 f
unfolding total
eight-rows f = refl

pub sum-requires-clause-fits : goal.sum-requires-clause-fits
sum-requires-clause-fits c =
    let x = c.args in
    let rows = row_clipped x.px.now x.o.now in
    fits_by_from_yields_list rows (range_with_len 0 8) c.map.result _ (YieldsList-from_map _ rows (YieldsList-from_range 0 8 8 c.map.ensures.source refl) c.map.ensures.closure (λ x r q k. search (rules, tests)))
    (rw (eight-rows rows) (omega (arith, total-≤ 8 8 rows (λ r l. run-≤ _ _ _ _ 8))))

pub returns : goal.returns
returns c =
    let x = c.args in
    let rows = row_clipped x.px.now x.o.now in
    sum_by_from_yields_List rows (range_with_len 0 8) c.map.result _ c.sum.ensures.ran (YieldsList-from_map _ rows (YieldsList-from_range 0 8 8 c.map.ensures.source refl) c.map.ensures.closure (λ x r q k. search (rules, tests)))
    ∙ eight-rows rows
