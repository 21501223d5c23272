-- `shelf_items::put_item` meets its contract. Assumes nothing.
use mathlib.Core.Path.{refl}
use Rattle.slices.proofs.Copied.{one_set}
use Rattle.slices.proofs.Parts.{part-put}
use Rattle.reconstruct.specs.Answers.{refusal}
use Rattle.drawing.specs.Drawn.{planes_of}
use Rattle.shelf_items.proofs.Items.{part-cleared, one-kept}
use Rattle.shelf_items.proofs.put_item.Goals as goal

pub returns-in-Ok : goal.returns-in-Ok
unfolding planes_of
returns-in-Ok c =
    let r = c.requires.1 in
    rw c.in-Ok.is
    (part-put 384 _ _ _ _ r.planes c.put_planes.ensures, refl, rw c.from.ensures (one_set _ _ r.place))

pub returns-in-Err : goal.returns-in-Err
unfolding planes_of refusal
returns-in-Err c =
    let r = c.requires.1 in
    rw c.in-Err.is
    (part-put 384 _ _ _ _ r.planes (part-cleared 384 _ _ _ r.planes c.clear.ensures), rw c.number.ensures refl, one-kept _ r.place)
