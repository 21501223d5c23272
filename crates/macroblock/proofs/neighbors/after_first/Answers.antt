-- `macroblock::neighbors::after_first` meets its contract. Assumes nothing.
use Rattle.std.proofs.Common.{◌≡◌, ◌∙◌, sym, ap, ℕ, ◌+◌, ◌-◌, take, drop, arith}
use Rattle.lists.proofs.Cut.{part-take}
use Rattle.macroblock.proofs.neighbors.after_first.Goals as goal

pub returns : goal.returns
returns g c =
    let n = g.row.N in
    let row = c.args.row.now in
    let e : 1 + n - 1 ≡ n = omega arith in
    c.copy_from_slice.ensures.after ∙ ap (λ (k : ℕ). take k (drop 1 row)) e ∙ sym (part-take n 1 row c.requires)
