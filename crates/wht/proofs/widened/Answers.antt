-- `wht::widened` meets its contract. Assumes nothing.
use mathlib.Core.Path.{◌≡◌, ◌∙◌}
use mathlib.Core.List.{List}
use native.Mathlib.Omega.{arith}
use borrow.Author.Rules.{rules}
use denote.Bor.{Bor}
use lib.IntN.{ℤ, pos}
use lib.ListN.{get_or}
use lib.Seq.{take_all}
use Rattle.lists.proofs.Table.{table-take}
use Rattle.lists.proofs.FromFn.{from-fn-table}
use Rattle.wht.proofs.widened.Goals as goal

pub returns : goal.returns
returns c =
    let x = c.args.input in
    from-fn-table {F = record { 0 : Bor (List ℤ) }} _ (λ p. p.0.now ≡ x) 16 (λ j. get_or x j (pos 0))
    (λ p q i y e h k. (search rules, search rules)) c.from_fn.result _ (pos 0) (search rules) c.from_fn.ensures.items
    ∙ table-take 16 x (pos 0) (omega arith) ∙ take_all 16 x (omega arith)
