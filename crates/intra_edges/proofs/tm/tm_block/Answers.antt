-- `intra_edges::tm::tm_block` meets its contract: TM is a rule of the H block's pixel and the V block's. Assumes nothing.
use Prim.Native.Nat.{ℕ}
use mathlib.Core.Path.{sym, ◌∙◌}
use lib.ListN.{get_or}
use borrow.Author.Rules.{rules}
use Rattle.rfc6386.specs.Edges.{tm}
use Rattle.rfc6386.proofs.Edges.{tm-planes}
use Rattle.lists.proofs.FromFn.{made-table}
use Rattle.intra_edges.proofs.tm.tm_block.Goals as goal

pub returns : goal.returns
returns g c =
    made-table _ _ (λ (k : ℕ). tm (get_or c.h_block-across.result k 0) (get_or c.v_block-down.result k 0) c.args.p) (λ i y q h. search rules)
    _ _ c.from_fn.ensures.items
    ∙ rw (c.requires, c.h_block-across.ensures, c.v_block-down.ensures) (sym (tm-planes _ _ _ _ _ _))
