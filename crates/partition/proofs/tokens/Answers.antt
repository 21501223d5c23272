use Rattle.std.proofs.Common.{◌≡◌, ℤ, Some, None, List, length, ap, ◌∙◌, arith}
use Rattle.std.proofs.lemmas.Result.{err_from_is_err_and}
use borrow.Author.Tests.{eq-eqb, ne_eqb}
use Rattle.macroblock.specs.Reply.{number, reply_of}
use Rattle.partition.specs.Answers.{tokens_answer}
use Rattle.partition.proofs.Told.{filled}
use Rattle.partition.proofs.tokens.Goals as goal

pub returns-then-probabilities-ne1056 : goal.returns-then-probabilities-ne1056
unfolding tokens_answer
returns-then-probabilities-ne1056 c = rw (ne_eqb _ 1056 c.if-probabilities-ne1056.true)

pub returns-in_err-a : goal.returns-in_err-a
unfolding tokens_answer
returns-in_err-a c =
    let o : c.as_array.result ≡ None = grind arith in
    let t = rw o at c.as_array.ensures.cases in
    let p = err_from_is_err_and c.from_residual.result c.from_residual.ensures.1 in
    let w = rw o at c.in_err-a.ensures.value in
    rw (p.1, p.2, ap reply_of w, eq-eqb (length c.args.probabilities.now) 1056 (omega (arith, c.if-probabilities-ne1056.false)), ne_eqb (length c.args.above.now) 9 t)

pub returns-in_err-l : goal.returns-in_err-l
unfolding tokens_answer
returns-in_err-l c =
    let ao : c.as_array.result ≡ Some c.in_ok-a.a = grind arith in
    let a = rw ao at c.as_array.ensures.cases in
    let o : c.as_array-2.result ≡ None = grind arith in
    let t = rw o at c.as_array-2.ensures.cases in
    let p = err_from_is_err_and c.from_residual-in_err-l.result c.from_residual-in_err-l.ensures.1 in
    let w = rw o at c.in_err-l.ensures.value in
    rw (p.1, p.2, ap reply_of w, eq-eqb (length c.args.probabilities.now) 1056 (omega (arith, c.if-probabilities-ne1056.false)), eq-eqb (length c.args.above.now) 9 a.long, ne_eqb (length c.args.left.now) 9 t)

pub returns-in_err-s : goal.returns-in_err-s
unfolding tokens_answer
returns-in_err-s c =
    let ao : c.as_array.result ≡ Some c.in_ok-a.a = grind arith in
    let a = rw ao at c.as_array.ensures.cases in
    let lo : c.as_array-2.result ≡ Some c.in_ok-l.l = grind arith in
    let l = rw lo at c.as_array-2.ensures.cases in
    let o : c.as_array-3.result ≡ None = grind arith in
    let t = rw o at c.as_array-3.ensures.cases in
    let p = err_from_is_err_and c.from_residual-in_err-s.result c.from_residual-in_err-s.ensures.1 in
    let w = rw o at c.in_err-s.ensures.value in
    rw (p.1, p.2, ap reply_of w, eq-eqb (length c.args.probabilities.now) 1056 (omega (arith, c.if-probabilities-ne1056.false)), eq-eqb (length c.args.above.now) 9 a.long, eq-eqb (length c.args.left.now) 9 l.long, ne_eqb (length c.args.state.now) 4 t)

pub returns-then-coeffs-ne400 : goal.returns-then-coeffs-ne400
unfolding tokens_answer
returns-then-coeffs-ne400 c =
    let ao : c.as_array.result ≡ Some c.in_ok-a.a = grind arith in
    let a = rw ao at c.as_array.ensures.cases in
    let lo : c.as_array-2.result ≡ Some c.in_ok-l.l = grind arith in
    let l = rw lo at c.as_array-2.ensures.cases in
    let so : c.as_array-3.result ≡ Some c.in_ok-s.s = grind arith in
    let s = rw so at c.as_array-3.ensures.cases in
    rw (eq-eqb (length c.args.probabilities.now) 1056 (omega (arith, c.if-probabilities-ne1056.false)), eq-eqb (length c.args.above.now) 9 a.long, eq-eqb (length c.args.left.now) 9 l.long, eq-eqb (length c.args.state.now) 4 s.long, ne_eqb _ 400 c.if-coeffs-ne400.true)

pub returns-in_err-m : goal.returns-in_err-m
unfolding tokens_answer
returns-in_err-m c =
    let ao : c.as_array.result ≡ Some c.in_ok-a.a = grind arith in
    let a = rw ao at c.as_array.ensures.cases in
    let lo : c.as_array-2.result ≡ Some c.in_ok-l.l = grind arith in
    let l = rw lo at c.as_array-2.ensures.cases in
    let so : c.as_array-3.result ≡ Some c.in_ok-s.s = grind arith in
    let s = rw so at c.as_array-3.ensures.cases in
    let p = err_from_is_err_and c.from_residual-in_err-m.result c.from_residual-in_err-m.ensures.1 in
    let x = c.args in
    let h = rw (a.same, l.same, s.same) at c.in_err-m.ensures in
    let z = c.fill.ensures.after (λ y q. q) ∙ filled (length x.coeffs.now) (omega (arith, c.if-coeffs-ne400.false)) in
    rw (eq-eqb (length c.args.probabilities.now) 1056 (omega (arith, c.if-probabilities-ne1056.false)), eq-eqb (length c.args.above.now) 9 a.long, eq-eqb (length c.args.left.now) 9 l.long, eq-eqb (length c.args.state.now) 4 s.long, eq-eqb (length c.args.coeffs.now) 400 (omega (arith, c.if-coeffs-ne400.false)), p.1, p.2) (ap (λ (b : List ℤ). (number c.in_err-m.field-0.0, x.above.now, x.left.now, x.state.now, b)) z ∙ h)

pub returns : goal.returns
unfolding tokens_answer
returns c =
    let ao : c.as_array.result ≡ Some c.in_ok-a.a = grind arith in
    let a = rw ao at c.as_array.ensures.cases in
    let lo : c.as_array-2.result ≡ Some c.in_ok-l.l = grind arith in
    let l = rw lo at c.as_array-2.ensures.cases in
    let so : c.as_array-3.result ≡ Some c.in_ok-s.s = grind arith in
    let s = rw so at c.as_array-3.ensures.cases in
    let h = rw (a.same, l.same, s.same) at c.in_ok-m.ensures in
    rw (
      eq-eqb (length c.args.probabilities.now) 1056 (omega (arith, c.if-probabilities-ne1056.false)),
      eq-eqb (length c.args.above.now) 9 a.long,
      eq-eqb (length c.args.left.now) 9 l.long,
      eq-eqb (length c.args.state.now) 4 s.long,
      eq-eqb (length c.args.coeffs.now) 400 (omega (arith, c.if-coeffs-ne400.false)),
      c.copy_from_slice.ensures.after,
      c.copy_from_slice-2.ensures.after,
      c.bytes_of.ensures,
      c.copy_from_slice-3.ensures.after,
      c.bytes_of-2.ensures,
      c.copy_from_slice-4.ensures.after,
      c.numbers_of.ensures,
    )
    h
