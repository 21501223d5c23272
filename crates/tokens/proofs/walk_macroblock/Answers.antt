use Rattle.std.proofs.Common.{◌≡◌, Some, None, length, ap, arith}
use Rattle.std.proofs.lemmas.Result.{err_from_is_err_and}
use borrow.Author.Tests.{eq-eqb, ne_eqb}
use Rattle.macroblock.specs.Reply.{reply_of}
use Rattle.tokens.specs.Answers.{walked}
use Rattle.tokens.proofs.walk_macroblock.Goals as goal

pub returns-in_err-probs : goal.returns-in_err-probs
unfolding walked
returns-in_err-probs c =
    let o : c.as_array.result ≡ None = grind arith in
    let t = rw o at c.as_array.ensures.cases in
    let p = err_from_is_err_and c.from_residual.result c.from_residual.ensures.1 in
    let w = rw o at c.in_err-probs.ensures.value in
    rw (p.1, p.2, ap reply_of w, ne_eqb (length c.args.probs.now) 1056 t)

pub returns-then-stands : goal.returns-then-stands
unfolding walked
returns-then-stands c =
    let o : c.as_array.result ≡ Some c.in_ok-probs.probs = grind arith in
    let t = rw o at c.as_array.ensures.cases in
    rw (eq-eqb (length c.args.probs.now) 1056 t.long, ← c.stands.ensures, c.if-stands.true) (rw t.same at c.answer.ensures)

pub returns-else-stands : goal.returns-else-stands
unfolding walked
returns-else-stands c =
    let o : c.as_array.result ≡ Some c.in_ok-probs.probs = grind arith in
    let t = rw o at c.as_array.ensures.cases in
    rw (eq-eqb (length c.args.probs.now) 1056 t.long, ← c.stands.ensures, c.if-stands.false)
