-- `plane_distance::plane_distance` meets its contract. Assumes nothing.
use mathlib.Core.Path.{sym, ◌∙◌}
use Rattle.plane_distance.specs.Apart.{plane_distance}
use Rattle.plane_distance.proofs.plane_distance.Goals as goal

pub returns-then-not-comparable : goal.returns-then-not-comparable
unfolding plane_distance
returns-then-not-comparable c = rw (sym c.comparable.ensures ∙ c.if-not-comparable.true) c.none.ensures

pub over_all-requires : goal.over_all-requires
over_all-requires c = sym c.comparable.ensures ∙ c.if-not-comparable.false

pub returns : goal.returns
unfolding plane_distance
returns c = rw (sym c.comparable.ensures ∙ c.if-not-comparable.false) c.over_all.ensures
