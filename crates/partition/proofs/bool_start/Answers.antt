use Rattle.std.proofs.Common.{ℕ, List, length, ap, ◌∙◌, arith}
use borrow.Author.Tests.{eq-eqb, ne_eqb}
use Rattle.bool_decoder.specs.declared.state.BoolState.{BoolState}
use Rattle.partition.specs.Answers.{start_answer, numbers_of}
use Rattle.partition.proofs.bool_start.Goals as goal

pub returns-then-state-ne4 : goal.returns-then-state-ne4
unfolding start_answer
returns-then-state-ne4 c = rw (ne_eqb _ 4 c.if-state-ne4.true)

pub returns : goal.returns
unfolding start_answer
returns c =
    rw (eq-eqb (length c.args.state.now) 4 (omega (arith, c.if-state-ne4.false)))
    (ap (λ (l : List ℕ). (0, l)) (c.copy_from_slice.ensures.after ∙ c.numbers_of.ensures) ∙ ap (λ (s : BoolState). (0, numbers_of s)) c.begin-s.ensures)
