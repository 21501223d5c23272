-- `wht::rounded` meets its contract. Assumes nothing.
use mathlib.Core.Path.{◌≡◌}
use mathlib.Core.List.{List}
use borrow.Author.Rules.{rules}
use denote.Bor.{Bor}
use lib.IntN.{ℤ, pos}
use lib.ListN.{get_or}
use Rattle.lists.proofs.FromFn.{from-fn-table}
use Rattle.rfc6386.specs.Wht.{wht_round}
use Rattle.wht.specs.Pass.{rounded_of}
use Rattle.wht.proofs.rounded.Goals as goal

pub returns : goal.returns
unfolding rounded_of
returns c =
    let x = c.args.x in
    from-fn-table {F = record { 0 : Bor (List ℤ) }} _ (λ p. p.0.now ≡ x) 16 (λ j. wht_round (get_or x j (pos 0)))
    (λ p q i y e h k. (search rules, search rules)) c.from_fn.result _ (pos 0) (search rules) c.from_fn.ensures.items
