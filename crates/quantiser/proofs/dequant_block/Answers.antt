-- `quantiser::dequant_block` meets its contract: the closure gives each coefficient by the AC factor, and the first is written over. Assumes nothing.
use mathlib.Core.Path.{◌≡◌}
use mathlib.Core.List.{List}
use Prim.Native.Nat.{ℕ}
use native.Mathlib.Omega.{arith}
use borrow.Author.Rules.{rules}
use denote.Bor.{Bor}
use lib.IntN.{ℤ, pos}
use lib.ListN.{get_or}
use mir.Facts.{to_z-of_z}
use Rattle.lists.proofs.FromFn.{from-fn-table}
use Rattle.whole.proofs.Held.{R16}
use Rattle.rfc6386.specs.Quantiser.{dequant}
use Rattle.quantiser.proofs.Read.{block-made, product-read}
use Rattle.quantiser.proofs.dequant_block.Goals as goal

pub returns : goal.returns
returns c =
    let a = c.args in
    let by-ac : ℕ → ℤ = λ j. dequant (get_or a.coeffs j (pos 0)) a.ac_factor in
    let b = from-fn-table {F = Bor (List ℤ) × Bor ℤ} _ (λ p. (p.0.now ≡ a.coeffs) × (p.1.now ≡ a.ac_factor)) 16 by-ac
    (λ p q i y e h k. (search rules, search rules)) c.from_fn-b.result _ (pos 0) (search rules) c.from_fn-b.ensures.items in
    let whole : R16 (get_or a.coeffs 0 (pos 0)) ≡ get_or a.coeffs 0 (pos 0) = search rules in
    let e = product-read _ _ _ c.dequant.type_inv whole (rw (to_z-of_z c.ranges.dc_factor) at c.dequant.ensures) in
    block-made a.coeffs a.dc_factor a.ac_factor _ e _ (omega arith) b
