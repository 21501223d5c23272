-- `zopredil::macroblocks::drawn` meets its contract. Assumes nothing.
use mathlib.Core.Path.{refl, sym, ◌∙◌}
use Rattle.slices.proofs.Copied.{or-zeros-fit}
use Rattle.drawing.specs.Drawn.{drawn_bytes}
use Rattle.zopredil.proofs.macroblocks.drawn.Goals as goal

pub returns-then-not-marks_known : goal.returns-then-not-marks_known
unfolding drawn_bytes
returns-then-not-marks_known c =
    let bytes = c.array-bytes.ensures ∙ or-zeros-fit 0 81 _ c.requires.1 in
    rw (← bytes, sym c.marks_known.ensures ∙ c.if-not-marks_known.true) refl

pub returns : goal.returns
unfolding drawn_bytes
returns c =
    let bytes = c.array-bytes.ensures ∙ or-zeros-fit 0 81 _ c.requires.1 in
    rw (← bytes, sym c.marks_known.ensures ∙ c.if-not-marks_known.false, ← c.neighbors_of.ensures, ← c.array.ensures) c.draw.ensures
