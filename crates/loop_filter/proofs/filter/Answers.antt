use mathlib.Core.Path.{sym}
use borrow.Author.Rules.{rules}
use borrow.Author.Tests.{leb-true}
use Rattle.loop_filter.specs.Answers.{filtered_planes, filter_answer}
use Rattle.loop_filter.proofs.Accepted.{low-holds, ready, err-is, done-is}
use Rattle.loop_filter.proofs.filter.Goals as goal

pub returns-in_err-check : goal.returns-in_err-check
unfolding filter_answer
returns-in_err-check c =
    let a = c.args in
    let e = c.in_err-check.field-0.0 in
    err-is _ c.from_residual.result e _ (a.y.now, a.u.now, a.v.now) (search rules) c.in_err-check.ensures

pub filter-requires-clause-ready : goal.filter-requires-clause-ready
filter-requires-clause-ready c =
    let a = c.args in
    let e = sym c.in_ok-check.ensures in
    let w = leb-true a.level 63 (low-holds a.cols a.rows a.y.now a.u.now a.v.now a.inner.now _ _ a.sharpness a.kind e) in
    ready a.cols a.rows a.y.now a.u.now a.v.now a.inner.now _ _ a.sharpness a.kind e (λ k. a.level) (λ m q. w)

pub returns : goal.returns
unfolding filter_answer filtered_planes
returns c = let e = c.filter.ensures in done-is _ _ _ _ _ _ (sym c.in_ok-check.ensures) e.0 e.1 e.2
