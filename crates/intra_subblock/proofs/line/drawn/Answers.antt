-- `intra_subblock::line::drawn` meets its contract: each place has its value of the line. Assumes nothing.
use mathlib.Core.Path.{◌∙◌}
use Prim.Native.Nat.{ℕ, ◌/◌, ◌%◌}
use borrow.Author.Rules.{rules}
use Rattle.lists.proofs.FromFn.{made-table}
use Rattle.intra_subblock.specs.Line.{line_pixel}
use Rattle.intra_subblock.proofs.Lines.{sixteen}
use Rattle.intra_subblock.proofs.line.drawn.Goals as goal

pub returns : goal.returns
returns c =
    let x = c.args in
    made-table _ _ (λ (k : ℕ). line_pixel x.line.now x.starts x.step (k / 4) (k % 4)) (λ i y q h. search rules) _ _ c.from_fn.ensures.items ∙ sixteen _
