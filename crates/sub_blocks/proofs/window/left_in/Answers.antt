-- `sub_blocks::window::left_in` meets its contract: the pixels are read one after another. Assumes nothing.
use Prim.Native.Nat.{ℕ, ◌+◌, ◌-◌, ◌*◌}
use mathlib.Core.Path.{◌∙◌}
use native.Mathlib.Omega.{arith}
use borrow.Author.Rules.{rules}
use lib.ListN.{get_or}
use Rattle.lists.proofs.FromFn.{made-table}
use Rattle.sub_blocks.proofs.Windows.{left_is}
use Rattle.sub_blocks.proofs.window.left_in.Goals as goal

pub returns : goal.returns
returns c =
    let x = c.args in
    made-table _ _ (λ (k : ℕ). get_or x.b.now (x.corner.at - 1 + 21 * k) 0) (λ i y q h. search rules) _ _ c.from_fn.ensures.items
    ∙ left_is _ _ (omega arith)
