-- `shelf_items::begin` meets its contract. Assumes nothing.
use mathlib.Core.Path.{refl, sym, ◌∙◌}
use mathlib.Core.List.{[], ◌∷◌}
use Rattle.slices.proofs.Copied.{put_fit}
use Rattle.shelf_items.specs.Steps.{planned, begun}
use Rattle.shelf_items.proofs.Turns.{fits}
use Rattle.shelf_items.proofs.begin.Goals as goal

pub returns : goal.returns
unfolding planned begun
returns c =
    let fit = sym c.lengths_fit.ensures ∙ c.if-not-lengths_fit.false in
    rw fit (refl, c.put_count.ensures ∙ put_fit 1 (0 ∷ []) _ (fits _ _ _ _ _ _ fit).clipped-fits)
