-- `still::draw_all` meets its contract. Assumes nothing.
use Prim.Native.Nat.{◌*◌}
use mathlib.Core.Path.{◌≡◌, refl, sym, ◌∙◌}
use native.Mathlib.Nat.{add-zero}
use native.Mathlib.Omega.{arith}
use Rattle.std.proofs.Common.{rules}
use Rattle.lists.specs.Lists.{turns, total}
use Rattle.lists.proofs.Turns.{turns-done}
use Rattle.lists.proofs.Pairs.{pair, same-pair}
use Rattle.lists.proofs.Total.{total-turn}
use Rattle.macroblock.proofs.Refusals.{number-more}
use Rattle.still.specs.Picture.{first, picture, first_clipped, picture_clipped}
use Rattle.still.proofs.Turned.{again, ended, count_turn, count-ended}
use Rattle.still.proofs.draw_all.Goals as goal

pub loop-k-init : goal.loop-k-init
unfolding turns total
loop-k-init c = record { finished = refl; counted = refl; few = omega arith }

pub returns-in-Err : goal.returns-in-Err
unfolding picture first picture_clipped first_clipped
returns-in-Err c =
    let e = same-pair c.in-Err.ensures refl in
    let q = c.right_from-pixels.ensures in
    let i = c.loop-k.invariant in
    let t = c.loop-k-test.true in
    let m = number-more c.in-Err.refusal in
    pair (ended _ _ _ _ _ _ _ _ _ _ _ _ _ _ _ _ _ t i.finished q e.0 (λ z. omega (arith, m, z)))
    (sym (add-zero c.loop-k.clipped)
    ∙ total-turn _ _ _ _ i.counted (count_turn _ _ _ _ _ _ _ _ _ _ _ _ _ i.finished q e.1)
    ∙ count-ended _ _ _ _ _ _ _ _ _ _ _ _ _ _ _ _ _ t i.finished q e.0 (λ z. omega (arith, m, z)))

pub loop-k-preserved : goal.loop-k-preserved
loop-k-preserved c =
    let e = same-pair c.in-Ok.ensures refl in
    let q = c.right_from-pixels.ensures in
    let i = c.loop-k.invariant in record {
      finished = again _ _ _ _ _ _ _ _ _ _ _ _ _ _ _ _ i.finished q e.0 refl;
      counted = total-turn _ _ _ _ i.counted (c.from-clipped.ensures ∙ count_turn _ _ _ _ _ _ _ _ _ _ _ _ _ i.finished q e.1);
      few = search rules;
    }

pub returns : goal.returns
unfolding picture first picture_clipped first_clipped
returns c =
    let i = c.loop-k.invariant in
    let full : c.loop-k.k ≡ c.args.cols * c.args.rows = omega arith in
    pair (turns-done _ _ _ _ _ i.finished (omega arith) c.loop-k-test.false) (rw full at i.counted)
