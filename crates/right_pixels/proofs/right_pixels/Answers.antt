-- `right_pixels::right_pixels` meets its contract: in an accepted picture the row above ends in the plane. Assumes nothing.
use mathlib.Core.Path.{sym, ◌∙◌}
use Rattle.right_pixels.specs.Answers.{right_pixels}
use Rattle.right_pixels.proofs.Accepted.{row-placed}
use Rattle.right_pixels.proofs.right_pixels.Goals as goal

pub returns-then-not-row_ok : goal.returns-then-not-row_ok
unfolding right_pixels
returns-then-not-row_ok c = rw (sym c.row_ok.ensures ∙ c.if-not-row_ok.true)

pub returns-then-not-luma_ok : goal.returns-then-not-luma_ok
unfolding right_pixels
returns-then-not-luma_ok c = rw (sym c.row_ok.ensures ∙ c.if-not-row_ok.false, sym c.luma_ok.ensures ∙ c.if-not-luma_ok.true)

pub last_above-requires : goal.last_above-requires
last_above-requires c =
    row-placed _ _ _ _ (sym c.row_ok.ensures ∙ c.if-not-row_ok.false) (sym c.luma_ok.ensures ∙ c.if-not-luma_ok.false)

pub returns : goal.returns
unfolding right_pixels
returns c =
    rw (sym c.row_ok.ensures ∙ c.if-not-row_ok.false, sym c.luma_ok.ensures ∙ c.if-not-luma_ok.false, c.last_above.ensures)
