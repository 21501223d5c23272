-- `dct::inverse_dct_4x4` meets its contract: the columns, then the rows. Assumes nothing.
use mathlib.Core.Path.{◌≡◌}
use mathlib.Core.List.{List}
use borrow.Author.Rules.{rules}
use denote.Bor.{Bor}
use lib.IntN.{ℤ, pos}
use Rattle.lists.proofs.FromFn.{from-fn-table}
use Rattle.rfc6386.specs.Dct.{entry}
use Rattle.dct.proofs.Blocks.{one_block}
use Rattle.dct.proofs.inverse_dct_4x4.Goals as goal

pub returns : goal.returns
returns c =
    let x = c.args.input in
    one_block _ _ _ _
    (from-fn-table {F = record { 0 : Bor (List ℤ) }} _ (λ p. p.0.now ≡ x) 16 (entry x)
    (λ p q i y e h k. (search rules, search rules)) c.from_fn-s.result _ (pos 0) (search rules) c.from_fn-s.ensures.items)
    c.columns.ensures c.rows.ensures
