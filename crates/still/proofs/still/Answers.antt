-- `still::still` meets its contract. Assumes nothing.
use mathlib.Core.Path.{refl, sym, ◌∙◌}
use native.Mathlib.Omega.{arith}
use borrow.Author.Tests.{eq-eqb, ne_eqb}
use Rattle.still.specs.Picture.{right_from}
use Rattle.still.specs.Answers.{still_answer, still_clipped}
use Rattle.still.proofs.Sizes.{size-says, fits}
use Rattle.still.proofs.still.Goals as goal

pub returns-then-not-size_ok : goal.returns-then-not-size_ok
unfolding still_answer still_clipped
returns-then-not-size_ok c = rw (c.into.ensures, sym c.size_ok.ensures ∙ c.if-not-size_ok.true) refl

pub lengths_ok-fit-requires : goal.lengths_ok-fit-requires
lengths_ok-fit-requires c = let p = size-says _ _ (sym c.size_ok.ensures ∙ c.if-not-size_ok.false) in (p.width, p.height)

pub returns-then-not-fit : goal.returns-then-not-fit
unfolding still_answer still_clipped
returns-then-not-fit c =
    let size = sym c.size_ok.ensures ∙ c.if-not-size_ok.false in
    let fit = sym c.lengths_ok-fit.ensures ∙ c.if-not-fit.true in
    rw (c.into-then-not-fit.ensures, size, fit) refl

pub overflow_sub-rows : goal.overflow_sub-rows
overflow_sub-rows c =
    let p = size-says _ _ (sym c.size_ok.ensures ∙ c.if-not-size_ok.false) in
    omega (arith, p.row)

pub overflow_mul-rows : goal.overflow_mul-rows
overflow_mul-rows c =
    let p = size-says _ _ (sym c.size_ok.ensures ∙ c.if-not-size_ok.false) in
    omega (arith, p.height)

pub returns-then-right-rows : goal.returns-then-right-rows
unfolding still_answer still_clipped
returns-then-right-rows c =
    let size = sym c.size_ok.ensures ∙ c.if-not-size_ok.false in
    let fit = sym c.lengths_ok-fit.ensures ∙ c.if-not-fit.false in
    rw (c.into-then-right-rows.ensures, size, fit, ne_eqb _ _ c.if-right-rows.true) refl

pub draw_all-requires : goal.draw_all-requires
draw_all-requires c =
    let size = sym c.size_ok.ensures ∙ c.if-not-size_ok.false in
    let fit = sym c.lengths_ok-fit.ensures ∙ c.if-not-fit.false in
    let p = size-says _ _ size in
    let k = c.if-right-rows.false in
    (fits _ _ _ _ _ _ _ _ size fit, λ e. omega (arith, p.row, k))

pub returns : goal.returns
unfolding still_answer still_clipped right_from
returns c =
    let size = sym c.size_ok.ensures ∙ c.if-not-size_ok.false in
    let fit = sym c.lengths_ok-fit.ensures ∙ c.if-not-fit.false in
    rw (size, fit, eq-eqb _ _ c.if-right-rows.false) c.draw_all.ensures
