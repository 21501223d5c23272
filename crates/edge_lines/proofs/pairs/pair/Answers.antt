use mathlib.Core.Path.{ap, ◌∙◌}
use mathlib.Core.List.{List}
use Prim.Native.Nat.{ℕ}
use native.Mathlib.Omega.{arith}
use Rattle.edge_lines.specs.Lines.{rows_put, zeros}
use Rattle.edge_lines.proofs.Rows.{fits-128}
use borrow.Author.Rules.{rules}
use Rattle.edge_lines.proofs.pairs.pair.Goals as goal

pub copy_rows-requires : goal.copy_rows-requires
copy_rows-requires c = let r = c.requires in (fits-128 _ _ _ (search rules) (omega arith), r.0)

pub copy_rows-requires-2 : goal.copy_rows-requires-2
copy_rows-requires-2 c = let r = c.requires in (fits-128 _ _ _ (search rules) (omega arith), r.1)

pub returns : goal.returns
unfolding zeros
returns c =
    let a = c.args in
    c.copy_rows-2.ensures ∙ ap (λ (l : List ℕ). rows_put 8 8 a.from a.step a.at a.stride a.v.now l) c.copy_rows.ensures
