-- `residue::block_pixels` meets its contract. Assumes nothing.
use mathlib.Core.Path.{◌≡◌}
use mathlib.Core.List.{List}
use Prim.Native.Nat.{ℕ}
use borrow.Author.Rules.{rules}
use denote.Bor.{Bor}
use lib.IntN.{ℤ}
use Rattle.lists.proofs.FromFn.{from-fn-table}
use Rattle.rfc6386.specs.Residue.{summed}
use Rattle.residue.proofs.Sums.{sum_of}
use Rattle.residue.proofs.block_pixels.Goals as goal

pub returns : goal.returns
unfolding summed
returns c =
    let a = c.args in
    from-fn-table {F = Bor (List ℕ) × Bor (List ℤ)} _ (λ p. (p.0.now ≡ a.prediction) × (p.1.now ≡ a.residue)) 16 (sum_of a.prediction a.residue)
    (λ p q i y e h k. (search rules, search rules)) c.from_fn.result _ 0 (search rules) c.from_fn.ensures.items
