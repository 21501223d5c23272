-- `distance::test` meets its contract. Assumes nothing.
use mathlib.Core.Path.{sym, ◌∙◌}
use native.Mathlib.Omega.{arith}
use Rattle.distance.proofs.Sizes.{refused-many, refused-sides, refused-lengths, not-refused}
use Rattle.distance.proofs.test.Goals as goal

pub returns-then-sizes-gt8192 : goal.returns-then-sizes-gt8192
returns-then-sizes-gt8192 c = refused-many _ _ _ _ (omega arith)

pub returns-then-not-sides_ok : goal.returns-then-not-sides_ok
returns-then-not-sides_ok c = refused-sides _ _ _ _ (omega arith) (sym c.sides_ok.ensures ∙ c.if-not-sides_ok.true)

pub lengths_ok-requires : goal.lengths_ok-requires
lengths_ok-requires c = (omega arith, sym c.sides_ok.ensures ∙ c.if-not-sides_ok.false)

pub returns-then-not-lengths_ok : goal.returns-then-not-lengths_ok
returns-then-not-lengths_ok c =
    refused-lengths _ _ _ _ (omega arith) (sym c.sides_ok.ensures ∙ c.if-not-sides_ok.false)
    (sym c.lengths_ok.ensures ∙ c.if-not-lengths_ok.true)

pub returns : goal.returns
returns c =
    not-refused _ _ _ _ (omega arith) (sym c.sides_ok.ensures ∙ c.if-not-sides_ok.false)
    (sym c.lengths_ok.ensures ∙ c.if-not-lengths_ok.false)
