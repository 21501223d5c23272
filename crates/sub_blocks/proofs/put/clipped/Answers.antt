-- `sub_blocks::put::clipped` meets its contract: the chain adds what `over` gives of each pixel and its residue. Assumes nothing.
use mathlib.Core.Path.{◌≡◌, ◌∙◌}
use Prim.Native.Nat.{ℕ, ◌+◌, ◌*◌, ◌/◌, ◌%◌}
use mathlib.Core.List.{List}
use native.Mathlib.Omega.{arith}
use lib.IntN.{ℤ, pos}
use lib.ListN.{length, get_or}
use borrow.Author.Rules.{rules}
use Rattle.std.proofs.Common.{tests}
use Rattle.std.specs.List.{sum_by, enumerate_from}
use Rattle.std.proofs.lemmas.Iterator.{YieldsList-from_slice, YieldsList-from_map}
use Rattle.std.proofs.lemmas.Iterator.Consumers.{YieldsList-at, YieldsList-from_enumerate, sum_by_from_yields_List, fits_by_from_yields_list}
use Rattle.std.proofs.lemmas.List.FromFn.{length-enumerate_from, get_or-enumerate_from}
use Rattle.clipping.specs.Clipped.{over}
use Rattle.lists.proofs.Total.{sum-total, total_ext}
use Rattle.sub_blocks.specs.Steps.{clipped_with}
use Rattle.sub_blocks.proofs.Counts.{with-≤}
use Rattle.sub_blocks.proofs.put.clipped.Goals as goal

-- a pixel with its number
counted : List ℤ → ℕ → ℕ × ℕ → ℕ
counted o j p = over p.1 (get_or o (16 * (p.0 / 4) + 4 * j + p.0 % 4) (pos 0))

numbered : (o : List ℤ) (j : ℕ) (px : List ℕ) → length px ≡ 16 → sum_by (counted o j) (enumerate_from 0 px) ≡ clipped_with o j px
unfolding clipped_with counted
numbered o j px e =
    sum-total (counted o j) (enumerate_from 0 px) (0, 0) 16 (length-enumerate_from 0 px ∙ e)
    ∙ total_ext 16 (λ i. counted o j (get_or (enumerate_from 0 px) i (0, 0))) (λ i. over (get_or px i 0) (get_or o (16 * (i / 4) + 4 * j + i % 4) (pos 0))) λ i l.
    let z : 0 + i ≡ i = omega arith in
    rw (get_or-enumerate_from 0 px i (0, 0) (omega (arith, e)), z)

pub sum-requires-clause-fits : goal.sum-requires-clause-fits
unfolding counted
sum-requires-clause-fits c =
    let x = c.args in
    fits_by_from_yields_list (counted x.o.now x.j) (enumerate_from 0 x.px.now) c.map.result _ (YieldsList-from_map _ (counted x.o.now x.j) (YieldsList-at c.map.ensures.source (YieldsList-from_enumerate (YieldsList-from_slice x.px.now (cc)) (cc))) c.map.ensures.closure (λ x r q k. search (rules, tests)))
    (rw (numbered x.o.now x.j x.px.now (omega arith)) (omega (arith, with-≤ x.o.now x.j x.px.now)))

pub returns : goal.returns
unfolding counted
returns c =
    let x = c.args in
    sum_by_from_yields_List (counted x.o.now x.j) (enumerate_from 0 x.px.now) c.map.result _ c.sum.ensures.ran (YieldsList-from_map _ (counted x.o.now x.j) (YieldsList-at c.map.ensures.source (YieldsList-from_enumerate (YieldsList-from_slice x.px.now (cc)) (cc))) c.map.ensures.closure (λ x r q k. search (rules, tests)))
    ∙ numbered x.o.now x.j x.px.now (omega arith)
