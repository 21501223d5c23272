-- `still::draw_at` meets its contract. Assumes nothing.
use Rattle.still.proofs.Parts.{at_place}
use Rattle.still.proofs.draw_at.Goals as goal

pub returns : goal.returns
returns c =
    let a = c.args in
    at_place a.cols a.rows a.modes.now a.sub_modes.now a.coeffs.now a.right a.k a.y.now a.u.now a.v.now _ _
    c.requires.2 c.array-subs.ensures c.draw_macroblock.ensures
