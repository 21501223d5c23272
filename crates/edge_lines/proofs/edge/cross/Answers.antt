use Prim.Native.Nat.{ℕ, ◌+◌, ◌*◌}
use mathlib.Core.Path.{◌≡◌, refl, ◌∙◌}
use mathlib.Core.List.{List}
use native.Mathlib.Omega.{arith}
use Rattle.macroblock.specs.declared.filter.Across.{Across}
use Rattle.macroblock.specs.declared.filter.Limits.{Limits}
use Rattle.macroblock.specs.declared.filter.Kind.{Kind}
use Rattle.lists.specs.Lists.{turns}
use Rattle.lists.proofs.Turns.{turns-step, turns-done}
use Rattle.rfc6386.specs.LoopFilter.{taken, laid, filtered, crossed, edge_turn, edge}
use Rattle.edge_lines.proofs.edge.cross.Goals as goal

turn-is : (kind : Kind) (l : Limits) (at k : ℕ) (b : List ℕ) (x y : Across) → x ≡ taken 16 (at + k) b → y ≡ filtered kind l x
    → laid 16 (at + k) y b ≡ edge_turn kind l at 16 1 k b
unfolding crossed
turn-is kind l at k b x y e f = let i : k * 1 ≡ k = omega arith in rw (i, f, e)

pub loop-k-init : goal.loop-k-init
unfolding turns
loop-k-init g c = (omega arith, refl, λ kind f. refl)

pub loop-k-preserved : goal.loop-k-preserved
loop-k-preserved g c =
    let i = c.loop-k.invariant in (
      omega arith,
      c.lay.auto.plane ∙ i.1,
      λ kind f.
          turns-step _ _ _ _ _ (i.2 kind f)
          (c.lay.ensures ∙ turn-is kind c.args.l c.args.at c.loop-k.k c.loop-k.b _ _ c.take-x.ensures (f.is _ _ _ c.filter.ensures)),
    )

pub returns : goal.returns
unfolding edge
returns g c = let i = c.loop-k.invariant in λ kind f. turns-done _ _ _ _ _ (i.2 kind f) i.0 c.loop-k-test.false
