-- `plane_distance::over_all` meets its contract: the stretches so far are the plane so far. Assumes nothing.
use Prim.Native.Nat.{ℕ, ◌≤◌, ◌<◌, ◌-◌, ◌+◌, ◌*◌, ◌/◌, ◌%◌, min}
use mathlib.Core.Bool.{true}
use mathlib.Core.Path.{◌≡◌, ap, ◌∙◌}
use native.Mathlib.Omega.{arith}
use lib.ListN.{length}
use Rattle.lists.specs.Lists.{total}
use Rattle.plane_distance.specs.Sums.{largest}
use Rattle.plane_distance.specs.Apart.{distance_from, comparable}
use Rattle.plane_distance.specs.declared.Distance.{Distance}
use Rattle.plane_distance.proofs.Pixels.{Bytes}
use Rattle.plane_distance.proofs.Parts.{parts, equal-≤, squares-≤, together-fits, comparable-says}
use Rattle.plane_distance.proofs.over_all.Goals as goal
use Rattle.plane_distance.proofs.over_all.Goals.{After-min-turns}

pub loop-part-init : goal.loop-part-init
unfolding distance_from total largest
loop-part-init c = let e : min 0 (length c.args.a.now) ≡ 0 = omega arith in rw e c.none-sum.ensures

-- the next stretch lies in both planes
pub record Next (part turns n m : ℕ) : Type 0 where
  pub few : turns ≤ 255
  pub begun : min (16320 * part) n ≡ 16320 * part
  pub inside : 16320 * part + 64 * turns ≤ n
  pub done : 16320 * part + 64 * turns ≡ min (16320 * (part + 1)) n
  pub same : n ≡ m
  pub small : n ≤ 268435456

next : (part turns n m : ℕ) → comparable n m ≡ true → part < n / 16320 + min 1 (n % 16320) → turns ≡ min ((n - 16320 * part) / 64) 255 → Next part turns n m
next part turns n m r l e =
    let k = comparable-says n m r in
    record {
      few = omega (arith, e);
      begun = omega (arith, l);
      inside = omega (arith, e, l);
      done = omega (arith, e, l, k.whole);
      same = k.same;
      small = k.small;
    }

here : (c : After-min-turns) → Next c.loop-part.part c.min-turns.result (length c.args.a.now) (length c.args.b.now)
here c = next _ _ _ _ c.requires (omega (arith, c.loop-part-test.true, c.div_ceil-part-end.ensures)) c.min-turns.ensures

pub overflow_mul-at : goal.overflow_mul-at
overflow_mul-at c = omega (arith, c.loop-part-test.true, c.div_ceil-part-end.ensures, (comparable-says _ _ c.requires).small)

pub stretch-requires : goal.stretch-requires
stretch-requires c = let n = here c in (n.few, n.inside, omega (arith, n.inside, n.same))

pub loop-part-preserved : goal.loop-part-preserved
loop-part-preserved c =
    let l = c.loop-part in
    let a = c.args.a.now in
    let b = c.args.b.now in
    let n = here (goal.at.loop-part-preserved c).After-min-turns in
    let p : Bytes a = λ i. omega (arith, c.type_inv.a i) in
    let q : Bytes b = λ i. omega (arith, c.type_inv.b i) in
    let at = 16320 * l.part in
    let more = 64 * c.min-turns.result in
    let before : l.sum ≡ distance_from a b 0 at = rw n.begun at l.invariant in
    c.together-sum.ensures
    ∙ together-fits l.sum c.stretch.result
    (omega (arith, ap (λ (d : Distance). d.squares) before, ap (λ (d : Distance). d.squares) c.stretch.ensures, n.inside, n.small, squares-≤ a b p q 0 at, squares-≤ a b p q at more))
    (omega (arith, ap (λ (d : Distance). d.equal) before, ap (λ (d : Distance). d.equal) c.stretch.ensures, n.inside, n.small, equal-≤ a b 0 at, equal-≤ a b at more))
    ∙ rw (before, c.stretch.ensures) (parts a b at more ∙ ap (λ (m : ℕ). distance_from a b 0 m) n.done)

pub returns : goal.returns
returns c =
    let n = length c.args.a.now in
    let full : min (16320 * c.loop-part.part) n ≡ n = omega (arith, c.loop-part-test.false, c.div_ceil-part-end.ensures) in
    rw full at c.loop-part.invariant
