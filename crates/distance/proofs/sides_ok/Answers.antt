-- `distance::sides_ok` meets its contract. Assumes nothing.
use Rattle.std.proofs.Common.{rules}
use Rattle.std.specs.Prelude.{IsTrue, All, ◌↔◌}
use Rattle.distance.specs.Answer.{side_ok}
use Rattle.distance.proofs.Sizes.{sides-all}
use Rattle.distance.proofs.sides_ok.Goals as goal

pub returns : goal.returns
returns c =
    let every : IsTrue c.all.result ↔ All (λ s. IsTrue (side_ok s)) c.args.sizes.now = search rules in
    sides-all c.all.result c.args.sizes.now every
