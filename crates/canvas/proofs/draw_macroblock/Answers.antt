-- `canvas::draw_macroblock` meets its contract. Assumes nothing.
use mathlib.Core.Path.{refl, sym, ap}
use native.Mathlib.Omega.{arith}
use Rattle.std.proofs.lemmas.Result.{err_from_is_err_and}
use Rattle.macroblock.proofs.Refusals.{number-more}
use Rattle.gathering.specs.Answers.{Gathered}
use Rattle.reconstruct.specs.Answers.{refusal}
use Rattle.canvas.proofs.Accepted.{y-placed, u-placed, v-placed}
use Rattle.canvas.proofs.Into.{not-gathered, not-drawn, is-drawn}
use Rattle.canvas.proofs.draw_macroblock.Goals as goal

pub returns-in_err-neighbors : goal.returns-in_err-neighbors
returns-in_err-neighbors c =
    let p = err_from_is_err_and c.from_residual.result c.from_residual.ensures.1 in
    rw (p.1, p.2)
    (not-gathered _ _ _ _ _ _ _ _ _ _ _ _ _ _ c.in_err-neighbors.ensures (λ z. let m = number-more c.in_err-neighbors.field-0.0 in omega (arith, m, z)))

pub returns-in_err-drawn : goal.returns-in_err-drawn
unfolding refusal
returns-in_err-drawn c =
    let p = err_from_is_err_and c.from_residual-in_err-drawn.result c.from_residual-in_err-drawn.ensures.1 in
    rw (p.1, p.2)
    (not-drawn _ _ _ _ _ _ _ _ _ _ _ _ _ _ c.in_ok-neighbors.ensures refl _ c.in_err-drawn.ensures
    (λ z. let m = number-more c.in_err-drawn.field-0.0 in omega (arith, m, z)))

pub put-requires : goal.put-requires
put-requires c =
    let z = sym (ap (λ (g : Gathered). g.reply) c.in_ok-neighbors.ensures) in
    (y-placed _ _ _ _ _ _ _ _ z, u-placed _ _ _ _ _ _ _ _ z, v-placed _ _ _ _ _ _ _ _ z)

pub returns : goal.returns
returns c =
    is-drawn _ _ _ _ _ _ _ _ _ _ _ _ _ _ c.in_ok-neighbors.ensures refl _ c.in_ok-drawn.ensures _ _ _ refl c.put.ensures
