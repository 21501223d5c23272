-- What the machine reads.
--     index_read       a clamped index is within the tables
--     product-read     a coefficient of a block that was dequantised and stored again
--     block-made       sixteen products by the AC factor, the first written over, are a block dequantised
--     clamped          a maximum of a minimum is a clamp
-- Assumes nothing.
use mathlib.Core.Path.{◌≡◌, sym, ap, ◌∙◌}
use mathlib.Core.List.{List}
use Prim.Native.Nat.{ℕ, zero, suc, ◌<◌}
use native.Mathlib.Omega.{arith}
use lib.IntN.{ℤ, pos, negsuc}
use lib.ListN.{length, get_or, set, length-set}
use lib.Seq.{take_all, get_or-set_same, get_or-set_other}
use lib.Signed.{mag}
use Rattle.std.specs.Int.{int_max, int_min}
use Rattle.std.proofs.lemmas.Int.{ints, clamps}
use Rattle.lists.specs.Lists.{table}
use Rattle.lists.proofs.Table.{table-length, table_at, table-ext, table-take}
use Rattle.whole.specs.Whole.{clamp_to}
use Rattle.whole.proofs.Held.{R16, R32, held16}
use Rattle.rfc6386.specs.Quantiser.{clamp_index, dequant, dequantised}
use Rattle.rfc6386.proofs.Quantiser.{index-in-table, dequantised-first, dequantised-later, dequantised-length}

pub index_read : (r : ℕ) (q : ℤ) → r ≡ clamp_index (R32 q) → r < 128
index_read r q e = rw e (index-in-table (R32 q))

pub product-read : (r x f : ℤ) → mag r < 32768 → R16 x ≡ x → r ≡ dequant (R16 x) f → R16 r ≡ dequant x f
product-read r x f h k e = held16 r h ∙ e ∙ ap (λ (y : ℤ). dequant y f) k

pub clamped : (z : ℤ) (m : ℕ) → int_max (pos 0) (int_min z (pos m)) ≡ pos (clamp_to m z)
unfolding clamp_to
clamped (pos n) m = omega (arith, ints, clamps)
clamped (negsuc n) m = omega (arith, ints, clamps)

module _ (l : List ℤ) (dc ac : ℤ) where
  abbrev by-ac : ℕ → ℤ
  by-ac j = dequant (get_or l j (pos 0)) ac

  module _ (v : ℤ) (h : v ≡ dequant (get_or l 0 (pos 0)) dc) where
    entry : (j : ℕ) → j < 16 → get_or (set (table 16 by-ac) 0 v) j (pos 0) ≡ get_or (dequantised l dc ac) j (pos 0)
    entry zero p =
        let n = table-length 16 by-ac in
        get_or-set_same (table 16 by-ac) 0 v (pos 0) (omega arith) ∙ h ∙ sym (dequantised-first l dc ac)
    entry (suc j) p =
        get_or-set_other (table 16 by-ac) 0 (suc j) v (pos 0) (λ e. omega arith) ∙ table_at 16 by-ac (suc j) (pos 0) p
        ∙ sym (dequantised-later l dc ac (suc j) (omega arith))

    pub block-made : (b : List ℤ) → length l ≡ 16 → b ≡ table 16 by-ac → set b 0 v ≡ dequantised l dc ac
    block-made b n e =
        let s = set (table 16 by-ac) 0 v in
        let k = length-set (table 16 by-ac) 0 v in
        let t = table-length 16 by-ac in
        let d = dequantised l dc ac in
        let m = dequantised-length l dc ac in
        rw e
        (sym (take_all 16 s (omega arith)) ∙ sym (table-take 16 s (pos 0) (omega arith))
        ∙ table-ext 16 (λ j. get_or s j (pos 0)) (λ j. get_or d j (pos 0)) entry ∙ table-take 16 d (pos 0) (omega arith) ∙ take_all 16 d (omega arith))
