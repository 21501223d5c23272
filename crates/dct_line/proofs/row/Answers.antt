-- `dct_line::row` meets its contract. Assumes nothing.
use mathlib.Core.Path.{◌≡◌, refl, ap, ◌∙◌}
use borrow.Author.Rules.{rules}
use mathlib.Core.List.{List}
use lib.IntN.{ℤ, pos}
use lib.ListN.{get_or}
use mir.Facts.{to_z-of_z}
use Rattle.whole.proofs.Held.{R32, held16}
use Rattle.rfc6386.specs.Dct.{pass, wrapped, rounded}
use Rattle.dct_line.specs.Lines.{line_of, row_of}
use Rattle.dct_line.proofs.row.Goals as goal

pub returns : goal.returns
unfolding row_of line_of
returns c =
    let r = c.line.result in
    let a = c.args in
    let line : r ≡ line_of a.i0 a.i1 a.i2 a.i3 =
    c.line.ensures ∙ rw (to_z-of_z c.ranges.i0, to_z-of_z c.ranges.i1, to_z-of_z c.ranges.i2, to_z-of_z c.ranges.i3) refl in
    let e0 : R32 (get_or r 0 (pos 0)) ≡ get_or r 0 (pos 0) = search rules in
    let e1 : R32 (get_or r 1 (pos 0)) ≡ get_or r 1 (pos 0) = search rules in
    let e2 : R32 (get_or r 2 (pos 0)) ≡ get_or r 2 (pos 0) = search rules in
    let e3 : R32 (get_or r 3 (pos 0)) ≡ get_or r 3 (pos 0) = search rules in
    let p0 : R32 (get_or r 0 (pos 0)) ≡ pass wrapped 0 a.i0 a.i1 a.i2 a.i3 = e0 ∙ ap (λ (l : List ℤ). get_or l 0 (pos 0)) line in
    let p1 : R32 (get_or r 1 (pos 0)) ≡ pass wrapped 1 a.i0 a.i1 a.i2 a.i3 = e1 ∙ ap (λ (l : List ℤ). get_or l 1 (pos 0)) line in
    let p2 : R32 (get_or r 2 (pos 0)) ≡ pass wrapped 2 a.i0 a.i1 a.i2 a.i3 = e2 ∙ ap (λ (l : List ℤ). get_or l 2 (pos 0)) line in
    let p3 : R32 (get_or r 3 (pos 0)) ≡ pass wrapped 3 a.i0 a.i1 a.i2 a.i3 = e3 ∙ ap (λ (l : List ℤ). get_or l 3 (pos 0)) line in
    let q0 = held16 c.rounded.result c.rounded.type_inv ∙ c.rounded.ensures ∙ ap rounded p0 in
    let q1 = held16 c.rounded-2.result c.rounded-2.type_inv ∙ c.rounded-2.ensures ∙ ap rounded p1 in
    let q2 = held16 c.rounded-3.result c.rounded-3.type_inv ∙ c.rounded-3.ensures ∙ ap rounded p2 in
    let q3 = held16 c.rounded-4.result c.rounded-4.type_inv ∙ c.rounded-4.ensures ∙ ap rounded p3 in
    rw (q0, q1, q2, q3) refl
