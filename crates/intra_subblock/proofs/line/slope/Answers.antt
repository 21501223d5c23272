-- `intra_subblock::line::slope` meets its contract: each value is what its call ensures. Assumes nothing.
use Prim.Native.Nat.{ℕ, ◌+◌}
use borrow.Author.Rules.{rules}
use Rattle.rfc6386.specs.Subblock.{avg3_at}
use Rattle.lists.proofs.FromFn.{made-table}
use Rattle.intra_subblock.proofs.line.slope.Goals as goal

pub returns : goal.returns
returns c = made-table _ _ (λ (k : ℕ). avg3_at c.args.e (k + 1)) (λ i y q h. search rules) _ _ c.from_fn.ensures.items
