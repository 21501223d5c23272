-- `still::still_alone` meets its contract. Assumes nothing.
use mathlib.Core.Bool.{true≢false}
use mathlib.Core.Path.{refl, sym, ◌∙◌}
use Rattle.still.specs.Picture.{right_from}
use Rattle.still.specs.Answers.{alone_answer, alone_clipped}
use Rattle.still.proofs.Sizes.{size-says, fits}
use Rattle.still.proofs.still_alone.Goals as goal

pub returns-then-not-size_ok : goal.returns-then-not-size_ok
unfolding alone_answer alone_clipped
returns-then-not-size_ok c = rw (c.into.ensures, sym c.size_ok.ensures ∙ c.if-not-size_ok.true) refl

pub lengths_ok-fit-requires : goal.lengths_ok-fit-requires
lengths_ok-fit-requires c = let p = size-says _ _ (sym c.size_ok.ensures ∙ c.if-not-size_ok.false) in (p.width, p.height)

pub returns-then-not-fit : goal.returns-then-not-fit
unfolding alone_answer alone_clipped
returns-then-not-fit c =
    let size = sym c.size_ok.ensures ∙ c.if-not-size_ok.false in
    let fit = sym c.lengths_ok-fit.ensures ∙ c.if-not-fit.true in
    rw (c.into-then-not-fit.ensures, size, fit) refl

pub draw_all-requires : goal.draw_all-requires
draw_all-requires c =
    let size = sym c.size_ok.ensures ∙ c.if-not-size_ok.false in
    let fit = sym c.lengths_ok-fit.ensures ∙ c.if-not-fit.false in
    (fits _ _ _ _ _ _ _ _ size fit, λ e. absurd (true≢false e))

pub returns : goal.returns
unfolding alone_answer alone_clipped right_from
returns c =
    let size = sym c.size_ok.ensures ∙ c.if-not-size_ok.false in
    let fit = sym c.lengths_ok-fit.ensures ∙ c.if-not-fit.false in
    rw (size, fit) c.draw_all.ensures
