-- `shelf_items::draw_job` meets its contract. Assumes nothing.
use mathlib.Core.Path.{subst, sym}
use Rattle.drawing.proofs.Shape.{Shape, with-shape}
use Rattle.shelf_items.proofs.Items.{job-drawn}
use Rattle.shelf_items.proofs.draw_job.Goals as goal

-- any macroblock that was drawn has its shape
pub put_item-requires : goal.put_item-requires
put_item-requires c =
    let s = subst Shape (sym c.draw_with-drawn.ensures) (with-shape _ _ _ _ _) in
    (s.counted, c.requires.2)

pub returns : goal.returns
returns c =
    let a = c.args in
    let e = job-drawn a.job a.sub_modes.now a.coeffs.now a.i _ _ c.requires.0 c.array-subs.ensures c.draw_with-drawn.ensures in
    rw (← e) c.put_item.ensures
