-- `shelf_items::put_bytes` meets its contract. Assumes nothing.
use mathlib.Core.Path.{subst, sym}
use Rattle.drawing.proofs.Shape.{Shape, bytes-shape}
use Rattle.shelf_items.proofs.Items.{bytes-drawn}
use Rattle.shelf_items.proofs.put_bytes.Goals as goal

-- any macroblock that was drawn has its shape
pub put_item-requires : goal.put_item-requires
put_item-requires c =
    let s = subst Shape (sym c.draw_bytes-drawn.ensures) (bytes-shape _ _ _ _ _ _ _) in
    (s.counted, c.requires.4)

pub returns : goal.returns
returns c =
    let a = c.args in
    let e = bytes-drawn a.modes.now a.records.now a.sub_modes.now a.coeffs.now a.i _ _ _ c.requires.1 c.requires.2
    c.array-edges.ensures c.array-subs.ensures c.draw_bytes-drawn.ensures in
    rw (← e) c.put_item.ensures
