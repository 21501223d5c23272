-- `quantiser::factor` meets its contract. Assumes nothing.
use mathlib.Core.Path.{◌≡◌, ap, ◌∙◌}
use native.Mathlib.Omega.{arith}
use borrow.Author.Rules.{rules}
use Prim.Native.Nat.{ℕ}
use lib.IntN.{pos}
use lib.ListN.{get_or}
use mir.Facts.{to_z-of_z}
use Rattle.whole.proofs.Held.{R16}
use Rattle.rfc6386.specs.Quantiser.{clamp_index}
use Rattle.quantiser.proofs.Read.{index_read}
use Rattle.quantiser.proofs.factor.Goals as goal

pub returns : goal.returns
returns c =
    let t = c.args.table.now in
    let i = c.clamp_qindex-i.result in
    let whole : R16 (get_or t i (pos 0)) ≡ get_or t i (pos 0) = search rules in
    whole ∙ ap (λ (k : ℕ). get_or t k (pos 0)) (c.clamp_qindex-i.ensures ∙ ap clamp_index (to_z-of_z c.ranges.q))

pub offset_bounds-table-i : goal.offset_bounds-table-i
offset_bounds-table-i c = omega (arith, index_read _ c.args.q c.clamp_qindex-i.ensures)

pub bounds-table-i : goal.bounds-table-i
bounds-table-i c = index_read _ c.args.q c.clamp_qindex-i.ensures
