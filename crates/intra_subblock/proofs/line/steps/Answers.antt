-- `intra_subblock::line::steps` meets its contract: each of the means is what its call ensures. Assumes nothing.
use mathlib.Core.List.{[], ◌∷◌}
use Rattle.intra_subblock.proofs.line.steps.Goals as goal

pub returns : goal.returns
returns c =
    let x = c.args in
    λ i.
    c.avg2p.ensures i ∷ c.avg3p.ensures i ∷ c.avg2p-2.ensures i ∷ c.avg3p-2.ensures i
    ∷ c.avg2p-3.ensures i ∷ c.avg3p-3.ensures i ∷ c.avg2p-4.ensures i ∷ c.avg3p-4.ensures i
    ∷ x.next ∷ x.last ∷ []
