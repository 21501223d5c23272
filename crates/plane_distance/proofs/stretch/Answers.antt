-- `plane_distance::stretch` meets its contract: after t turns the sum is that of the first 64 t pixels, and each lane is that of its first t. Assumes nothing.
use Prim.Native.Nat.{ℕ, ◌≤◌, ◌<◌, ◌+◌, ◌*◌}
use mathlib.Core.List.{List}
use mathlib.Core.Path.{◌≡◌, refl, sym, ◌∙◌}
use native.Mathlib.Omega.{arith}
use lib.ListN.{length, get_or}
use Rattle.lists.specs.Lists.{total}
use Rattle.lists.proofs.Table.{table_same, table-length}
use Rattle.plane_distance.specs.Apart.{square_at}
use Rattle.plane_distance.proofs.Pixels.{Bytes}
use Rattle.plane_distance.proofs.Lanes.{squares-of, sum-of, largest-of, squares-turn, raise-turn, count_turn, squares-fit, lanes-below, stretched, no_gaps, no-sames}
use Rattle.plane_distance.proofs.stretch.Goals as goal
use Rattle.plane_distance.proofs.stretch.Goals.{After-gaps-d}

-- a sum of at most 255 turns fits 32 bits: 255 * 64 * 65025 is less than 2^30
small : (a b : List ℕ) (at t : ℕ) → Bytes a → Bytes b → t ≤ 255 → total (64 * t) (λ i. square_at a b (at + i)) < 1073741824
small a b at t p q h = omega (arith, squares-fit a b at p q (64 * t))

pub loop-t-init : goal.loop-t-init
unfolding total
loop-t-init c =
    let a = c.args in (
      omega arith,
      refl,
      sym (table_same 0 64) ∙ no_gaps a.a.now a.b.now a.at,
      sym (table_same 0 64) ∙ no-sames a.a.now a.b.now a.at,
    )

turn : (c : After-gaps-d) → length c.gaps-d.result ≡ 64
turn c = rw c.gaps-d.ensures (table-length 64 _)

-- the sum with this turn's squares
summed : (c : After-gaps-d) → c.loop-t.s + total 64 (λ k. get_or c.gaps-d.result k 0 * get_or c.gaps-d.result k 0) < 1073741824
summed c =
    let l = c.loop-t in
    let a = c.args in
    let p : Bytes a.a.now = λ i. omega (arith, c.type_inv.a i) in
    let q : Bytes a.b.now = λ i. omega (arith, c.type_inv.b i) in
    rw (squares-turn _ _ _ l.t _ c.gaps-d.ensures _ _ l.invariant.1 refl) (small a.a.now a.b.now a.at (l.t + 1) p q (omega (arith, c.requires.0)))

pub squares-s-requires : goal.squares-s-requires
squares-s-requires c = let k = (goal.at.squares-s-requires c).After-gaps-d in omega (arith, squares-of _ (turn k), summed k)

pub overflow_add-s : goal.overflow_add-s
overflow_add-s c =
    let k = (goal.at.overflow_add-s c).After-gaps-d in
    omega (arith, c.squares-s.ensures, squares-of _ (turn k), summed k)

pub counted-n-requires : goal.counted-n-requires
counted-n-requires c k h = omega (arith, lanes-below _ _ _ c.loop-t.t _ c.loop-t.invariant.3 k h, c.requires.0)

pub loop-t-preserved : goal.loop-t-preserved
loop-t-preserved c =
    let l = c.loop-t in
    let d = turn (goal.at.loop-t-preserved c).After-gaps-d in (
      omega arith,
      squares-turn _ _ _ l.t _ c.gaps-d.ensures _ _ l.invariant.1 (c.squares-s.ensures ∙ squares-of _ d),
      raise-turn _ _ _ l.t _ c.gaps-d.ensures _ _ l.invariant.2 c.raised-m.ensures,
      count_turn _ _ _ l.t _ c.gaps-d.ensures _ _ l.invariant.3 c.counted-n.ensures,
    )

pub returns : goal.returns
returns c =
    let a = c.args in
    let l = c.loop-t in
    let full : l.t ≡ a.turns = omega arith in
    let m : length l.m ≡ 64 = rw l.invariant.2 (table-length 64 _) in
    let n : length l.n ≡ 64 = rw l.invariant.3 (table-length 64 _) in
    rw (← full)
    (stretched a.a.now a.b.now a.at l.t _ _ _ _ _ (c.from.ensures ∙ l.invariant.1) l.invariant.2 l.invariant.3 (c.from-2.ensures ∙ c.highest.ensures ∙ largest-of _ m)
    (c.from-3.ensures ∙ c.all_of.ensures ∙ sum-of _ n))
