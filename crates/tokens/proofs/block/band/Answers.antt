use Rattle.std.proofs.Common.{ℕ, List, ◌<◌, ◌*◌, ◌++◌, [], ◌∷◌, map, refl, arith}
use Rattle.tokens.specs.Tokens.{bands}
use Rattle.tokens.proofs.Slots.{below-at, band-at}
use Rattle.tokens.proofs.block.band.Goals as goal

pub returns : goal.returns
unfolding bands
returns c =
    let t : List ℕ = map (λ x. 33 * x) bands ++ 231 ∷ [] in
    let h : c.args.i < 17 = omega (arith, c.requires) in
    band-at t refl c.args.i c.requires (below-at 232 t (tt {0}) c.args.i h)
