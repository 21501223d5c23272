-- `work_buffer::border::first_row` meets its contract: each pixel is its own, or 127 where its part is absent. Assumes nothing.
use Prim.Native.Nat.{ℕ}
use borrow.Author.Rules.{rules}
use lib.Dec.{ltb}
use lib.ListN.{get_or}
use Rattle.lists.specs.Lists.{pick}
use Rattle.rfc6386.specs.Edges.{pixel_or}
use Rattle.lists.proofs.FromFn.{made-table}
use Rattle.work_buffer.specs.Steps.{first_row}
use Rattle.work_buffer.proofs.border.first_row.Goals as goal

pub returns : goal.returns
unfolding first_row
returns c =
    let x = c.args in
    made-table _ _ (λ (i : ℕ). pixel_or 127 (get_or x.given i 0) (pick (ltb i 1) x.topleft_there (pick (ltb i 17) x.above_there x.above_right_there)))
    (λ i y q h. search rules) _ _ c.from_fn.ensures.items
