-- `still::right_of` meets its contract. Assumes nothing.
use Prim.Native.Nat.{◌*◌, ◌-◌}
use mathlib.Core.Path.{refl, ◌∙◌}
use native.Mathlib.Omega.{arith}
use borrow.Author.Tests.{eq-eqb, ne_eqb}
use Rattle.still.specs.Picture.{right_at}
use Rattle.slices.proofs.Parts.{part-whole}
use Rattle.still.proofs.right_of.Goals as goal

pub returns-then-row-eq0 : goal.returns-then-row-eq0
unfolding right_at
returns-then-row-eq0 c = rw (eq-eqb _ _ c.if-row-eq0.true) refl

pub returns : goal.returns
unfolding right_at
returns c =
    let a = c.args in
    rw (ne_eqb _ _ c.if-row-eq0.false) (c.array.ensures ∙ part-whole 0 4 (4 * (a.row - 1)) a.right.now (omega arith))
