-- `shelf_items::put_job` meets its contract. Assumes nothing.
use mathlib.Core.Path.{refl, sym, ◌∙◌}
use Rattle.shelf_items.proofs.Places.{placed}
use Rattle.shelf_items.proofs.put_job.Goals as goal

pub draw_job-requires : goal.draw_job-requires
draw_job-requires c =
    placed _ _ _ _ _ _ (sym c.has_place.ensures ∙ c.if-has_place.true)

pub returns-then-has_place : goal.returns-then-has_place
returns-then-has_place c =
    rw (sym c.has_place.ensures ∙ c.if-has_place.true) c.draw_job.ensures

pub returns-else-has_place : goal.returns-else-has_place
returns-else-has_place c = rw (sym c.has_place.ensures ∙ c.if-has_place.false) (refl, refl, refl)
