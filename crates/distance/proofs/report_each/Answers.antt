-- `distance::report_each` meets its contract: after k turns the first k reports stand and are summed. Assumes nothing.
use Prim.Native.Nat.{◌<◌, ◌≤◌, ◌+◌, ◌/◌}
use mathlib.Core.Path.{◌≡◌, refl, ap, ◌∙◌}
use native.Mathlib.Omega.{arith}
use lib.ListN.{length}
use Rattle.plane_distance.specs.declared.Distance.{Distance}
use Rattle.plane_distance.proofs.Pixels.{Bytes}
use Rattle.plane_distance.proofs.Parts.{together-fits}
use Rattle.distance.specs.Stills.{still_at, reported}
use Rattle.distance.proofs.Sizes.{lengths-say, start_none, placed}
use Rattle.distance.proofs.Planes.{still-is}
use Rattle.distance.proofs.Reports.{report-none, report-turn, reports-done, sum-none, sum-turn}
use Rattle.distance.proofs.Bounds.{still-squares-≤, sum-squares-≤, still-equal-≤, sum-equal-≤}
use Rattle.distance.proofs.report_each.Goals as goal
use Rattle.distance.proofs.report_each.Goals.{After-together-sum}

pub loop-k-init : goal.loop-k-init
loop-k-init c = (start_none _, c.none-sum.ensures ∙ sum-none _ _ _, report-none _ _, refl)

pub pixels-requires : goal.pixels-requires
pixels-requires c = (omega arith, c.requires.sides)

pub overflow_add-end : goal.overflow_add-end
overflow_add-end c = omega (arith, (placed _ _ _ _ c.requires c.loop-k.k _ _ (omega arith) c.loop-k.invariant.0 c.pixels.ensures).fits)

pub still-d-requires : goal.still-d-requires
still-d-requires c = (placed _ _ _ _ c.requires c.loop-k.k _ _ (omega arith) c.loop-k.invariant.0 c.pixels.ensures).plane

pub put_report-requires : goal.put_report-requires
put_report-requires c =
    omega (arith, (placed _ _ _ _ c.requires c.loop-k.k _ _ (omega arith) c.loop-k.invariant.0 c.pixels.ensures).report, c.loop-k.invariant.3)

-- the sums with still k fit 64 bits
fits : (c : After-together-sum) → (c.loop-k.sum.squares + c.still-d.result.squares ≤ 18446744073709551615) × (c.loop-k.sum.equal + c.still-d.result.equal ≤ 18446744073709551615)
fits c =
    let a = c.args in
    let z = a.sizes.now in
    let d = a.drawn.now in
    let m = a.measured.now in
    let p : Bytes d = λ i. omega (arith, c.type_inv.drawn i) in
    let q : Bytes m = λ i. omega (arith, c.type_inv.measured i) in
    let s = c.requires.sides in
    let sum = c.loop-k.invariant.1 in
    let one = still-is _ _ _ c.loop-k.k c.loop-k.at c.pixels.result _ c.loop-k.invariant.0 c.pixels.ensures c.still-d.ensures in
    let k = c.loop-k.k in
    let h : k < length z / 2 = omega arith in (
      omega (
        arith,
        ap (λ (x : Distance). x.squares) sum,
        ap (λ (x : Distance). x.squares) one,
        sum-squares-≤ z d m s p q k (omega arith),
        still-squares-≤ z d m s p q k (omega arith),
        c.requires.few,
      ),
      omega (
        arith,
        ap (λ (x : Distance). x.equal) sum,
        ap (λ (x : Distance). x.equal) one,
        sum-equal-≤ z d m s k (omega arith),
        still-equal-≤ z d m s k (omega arith),
        c.requires.few,
      ),
    )

pub loop-k-preserved : goal.loop-k-preserved
loop-k-preserved c = (
  (placed _ _ _ _ c.requires c.loop-k.k _ _ (omega arith) c.loop-k.invariant.0 c.pixels.ensures).after,
  sum-turn _ _ _ c.loop-k.k _ _ _ c.loop-k.invariant.1 (still-is _ _ _ c.loop-k.k c.loop-k.at c.pixels.result _ c.loop-k.invariant.0 c.pixels.ensures c.still-d.ensures) (c.together-sum.ensures ∙ (let f = fits (goal.at.loop-k-preserved c).After-together-sum in together-fits _ _ f.0 f.1)),
  report-turn _ c.loop-k.k _ _ _ _ c.loop-k.invariant.2 (still-is _ _ _ c.loop-k.k c.loop-k.at c.pixels.result _ c.loop-k.invariant.0 c.pixels.ensures c.still-d.ensures) c.put_report.ensures,
  omega (arith, c.loop-k.auto.reports, c.loop-k.invariant.3),
)

pub returns : goal.returns
unfolding reported
returns c =
    let l = c.loop-k in
    let a = c.args in
    let full : l.k ≡ length a.sizes.now / 2 = omega arith in
    let fits = lengths-say _ _ _ _ c.requires.lengths in (
      rw full at l.invariant.1,
      (rw full at l.invariant.2) ∙ reports-done (still_at a.sizes.now a.drawn.now a.measured.now) _ _ fits.reports-fit,
    )
