-- `drawing::draw_bytes` meets its contract. Assumes nothing.
use mathlib.Core.Path.{refl, sym, ◌∙◌}
use Rattle.drawing.specs.Drawn.{drawn_bytes}
use Rattle.drawing.proofs.draw_bytes.Goals as goal

pub returns-then-not-marks_known : goal.returns-then-not-marks_known
unfolding drawn_bytes
returns-then-not-marks_known c = rw (sym c.marks_known.ensures ∙ c.if-not-marks_known.true) refl

pub returns : goal.returns
unfolding drawn_bytes
returns c =
    rw (sym c.marks_known.ensures ∙ c.if-not-marks_known.false, ← c.neighbors_of-neighbors.ensures) c.draw.ensures
