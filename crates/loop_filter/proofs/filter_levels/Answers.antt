use mathlib.Core.Path.{refl, sym, ◌∙◌}
use native.Mathlib.Omega.{arith}
use lib.ListN.{get_or}
use borrow.Author.Rules.{rules}
use Rattle.loop_filter.specs.Picture.{level_of}
use Rattle.loop_filter.specs.Answers.{filtered_planes, levels_answer}
use Rattle.loop_filter.proofs.LowLevels.{levels-low, levels-ok-is}
use Rattle.loop_filter.proofs.Accepted.{low-holds, levels-fit, ready, err-is, done-is}
use Rattle.loop_filter.proofs.filter_levels.Goals as goal

pub returns-in_err-check : goal.returns-in_err-check
unfolding levels_answer
returns-in_err-check c =
    let a = c.args in
    let e = c.in_err-check.field-0.0 in
    err-is _ c.from_residual.result e _ (a.y.now, a.u.now, a.v.now) (search rules)
    (c.in_err-check.ensures ∙ rw (levels-ok-is c.levels_ok.result a.levels.now c.levels_ok.ensures) refl)

pub filter-requires-clause-levels : goal.filter-requires-clause-levels
filter-requires-clause-levels c =
    let a = c.args in
    levels-fit a.cols a.rows a.y.now a.u.now a.v.now a.inner.now _ _ a.sharpness a.kind (sym c.in_ok-check.ensures)

pub filter-requires-clause-ready : goal.filter-requires-clause-ready
filter-requires-clause-ready c =
    let a = c.args in
    let e = sym c.in_ok-check.ensures in
    let f = levels-fit a.cols a.rows a.y.now a.u.now a.v.now a.inner.now _ _ a.sharpness a.kind e in
    let w =
    sym (levels-ok-is c.levels_ok.result a.levels.now c.levels_ok.ensures)
    ∙ low-holds a.cols a.rows a.y.now a.u.now a.v.now a.inner.now _ _ a.sharpness a.kind e in
    ready a.cols a.rows a.y.now a.u.now a.v.now a.inner.now _ _ a.sharpness a.kind e (λ k. get_or a.levels.now k 0) (λ m q. levels-low a.levels.now w m (omega arith))

pub returns : goal.returns
unfolding levels_answer filtered_planes level_of
returns c =
    let a = c.args in
    let e = c.filter.ensures in
    done-is _ _ _ _ _ _ (rw (← levels-ok-is c.levels_ok.result a.levels.now c.levels_ok.ensures) (sym c.in_ok-check.ensures)) e.0 e.1 e.2
