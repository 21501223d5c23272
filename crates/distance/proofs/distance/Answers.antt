-- `distance::distance` meets its contract. Assumes nothing.
use mathlib.Core.Path.{◌≡◌, refl, sym, ◌∙◌}
use native.Mathlib.Omega.{arith}
use lib.ListN.{length, replicate}
use Rattle.std.proofs.Common.{rules}
use Rattle.std.specs.Prelude.{Err}
use Rattle.macroblock.specs.Reply.{number, reply_of}
use Rattle.macroblock.proofs.Refusals.{number-more}
use Rattle.distance.specs.Stills.{report_of}
use Rattle.distance.proofs.Sizes.{accepted}
use Rattle.distance.proofs.Answers.{no-places, refused, given}
use Rattle.distance.proofs.distance.Goals as goal

pub returns-then-totals-ne3 : goal.returns-then-totals-ne3
returns-then-totals-ne3 c = no-places _ _ _ _ _ c.if-totals-ne3.true

pub returns-in_err-test : goal.returns-in_err-test
unfolding report_of
returns-in_err-test c =
    let t = c.args.totals.now in
    let zeros : c.fill.new.self ≡ replicate (length t) 0 = search rules in
    let e = c.in_err-test.field-0.0 in
    let err : c.from_residual.result ≡ Err e = search rules in
    let three : length t ≡ 3 = c.if-totals-ne3.false in
    rw err
    (refused _ _ _ _ t three (number e) c.in_err-test.ensures c.fill.new.self (λ z. absurd (omega (arith, number-more e, z))) (zeros ∙ rw three))

pub report_each-sum-requires : goal.report_each-sum-requires
report_each-sum-requires c =
    let r : reply_of c.test.result ≡ 0 = search rules in
    accepted _ _ _ _ (sym c.test.ensures ∙ r)

pub returns : goal.returns
returns c =
    let r : reply_of c.test.result ≡ 0 = search rules in
    given _ _ _ _ _ c.if-totals-ne3.false 0 (sym r ∙ c.test.ensures) _ _ _ refl c.report_each-sum.ensures.0 c.report_each-sum.ensures.1 (c.copy_from_slice.ensures.after ∙ c.report.ensures)
