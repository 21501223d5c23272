-- `canvas::place_row` meets its contract. Assumes nothing.
use Prim.Native.Nat.{◌+◌, ◌-◌}
use mathlib.Core.Path.{sym, ◌∙◌}
use native.Mathlib.Omega.{arith}
use lib.ListN.{drop, length-drop}
use lib.Seq.{length-take-le}
use Rattle.slices.proofs.Copied.{copied-fit}
use Rattle.canvas.proofs.Rows.{row-laid}
use Rattle.canvas.proofs.place_row.Goals as goal

pub returns : goal.returns
returns c =
    let a = c.args in
    let to = length-take-le (a.at + a.n - a.at) (drop a.at a.plane.now) (rw length-drop (omega (arith, c.requires.0))) in
    let from = length-take-le (a.from + a.n - a.from) (drop a.from a.block.now) (rw length-drop (omega (arith, c.requires.1))) in
    rw (c.copy.ensures ∙ copied-fit _ _ (to ∙ omega arith ∙ sym from)) (row-laid _ _ _ _ _ c.requires.0 c.requires.1)
