-- 14.1 and 20.4: the least and the largest value of each factor, over all indices, from the tables' rule; and a macroblock's blocks, coefficient by
-- coefficient: each block is dequantised as one by itself, and a 0 stays 0. Assumes nothing.
use mathlib.Core.Path.{◌≡◌, refl, sym, ap, subst, ◌∙◌}
use mathlib.Core.List.{List}
use Prim.Native.Nat.{ℕ, zero, suc, ◌+◌, ◌*◌, ◌/◌, ◌%◌, ◌<◌, ◌≤◌, min, max}
use native.Mathlib.Omega.{arith}
use borrow.Author.Tests.{ne_eqb}
use lib.Dec.{eqb}
use lib.IntN.{ℤ, pos}
use lib.ListN.{length, get_or, take, drop}
use lib.Seq.{get_or-take, get_or-drop}
use Rattle.lists.specs.Lists.{pick}
use Rattle.lists.proofs.Rows.{rows-length, rows_at}
use Rattle.whole.specs.Whole.{clamp_to}
use Rattle.rfc6386.specs.Quantiser.{dc_lookup, ac_lookup, clamp_index, dc_factor, ac_factor, dequant, dequantised}
use Rattle.rfc6386.specs.MbFactors.{dc_entry, ac_entry, y2_dc_factor, y2_ac_factor, uv_dc_factor, blocks_dequantised}
use Rattle.rfc6386.proofs.Quantiser.{dc-rising, ac-rising, within, index-in-table, zero-stays, dequantised-first, dequantised-later}

-- ---- the tables at an index
pub dc-entry-within : (q : ℤ) → (4 ≤ dc_entry q) × (dc_entry q ≤ 157)
unfolding dc_entry
dc-entry-within q = within dc_lookup 157 dc-rising (clamp_index q) (index-in-table q)

pub ac-entry-within : (q : ℤ) → (4 ≤ ac_entry q) × (ac_entry q ≤ 284)
unfolding ac_entry
ac-entry-within q = within ac_lookup 284 ac-rising (clamp_index q) (index-in-table q)

pub dc-factor-entry : (q : ℤ) → dc_factor q ≡ pos (dc_entry q)
unfolding dc_factor dc_entry
dc-factor-entry q = refl

pub ac-factor-entry : (q : ℤ) → ac_factor q ≡ pos (ac_entry q)
unfolding ac_factor ac_entry
ac-factor-entry q = refl

-- ---- the factors
-- z is a number from `least` to `most`
pub record Between (least most : ℕ) (z : ℤ) : Type 0 where
  pub value : ℕ
  pub is : z ≡ pos value
  pub least-≤ : least ≤ value
  pub ≤-most : value ≤ most

-- every index gives a factor from `least` to `most`, index 0 the first of these and index 127 the last
pub record Ranges (f : ℤ → ℤ) (least most : ℕ) : Type 0 where
  pub every : (q : ℤ) → Between least most (f q)
  pub at-0 : f (pos 0) ≡ pos least
  pub at-127 : f (pos 127) ≡ pos most

-- Y1 DC
pub dc-ranges : Ranges dc_factor 4 157
unfolding dc_factor dc_lookup clamp_index clamp_to
dc-ranges =
    record {
      every = λ q. record { value = dc_entry q; is = dc-factor-entry q; least-≤ = (dc-entry-within q).0; ≤-most = (dc-entry-within q).1 };
      at-0 = refl;
      at-127 = refl;
    }

-- Y1 AC and chroma AC
pub ac-ranges : Ranges ac_factor 4 284
unfolding ac_factor ac_lookup clamp_index clamp_to
ac-ranges =
    record {
      every = λ q. record { value = ac_entry q; is = ac-factor-entry q; least-≤ = (ac-entry-within q).0; ≤-most = (ac-entry-within q).1 };
      at-0 = refl;
      at-127 = refl;
    }

pub y2-dc-ranges : Ranges y2_dc_factor 8 314
unfolding y2_dc_factor dc_entry dc_lookup clamp_index clamp_to
y2-dc-ranges =
    record {
      every = λ q. record { value = dc_entry q * 2; is = refl; least-≤ = omega (arith, dc-entry-within q); ≤-most = omega (arith, dc-entry-within q) };
      at-0 = refl;
      at-127 = refl;
    }

pub y2-ac-ranges : Ranges y2_ac_factor 8 440
unfolding y2_ac_factor ac_entry ac_lookup clamp_index clamp_to
y2-ac-ranges =
    record {
      every = λ q. record { value = max (ac_entry q * 155 / 100) 8; is = refl; least-≤ = omega (arith, ac-entry-within q); ≤-most = omega (arith, ac-entry-within q) };
      at-0 = refl;
      at-127 = refl;
    }

pub uv-dc-ranges : Ranges uv_dc_factor 4 132
unfolding uv_dc_factor dc_entry dc_lookup clamp_index clamp_to
uv-dc-ranges =
    record {
      every = λ q. record { value = min (dc_entry q) 132; is = refl; least-≤ = omega (arith, dc-entry-within q); ≤-most = omega (arith, dc-entry-within q) };
      at-0 = refl;
      at-127 = refl;
    }

-- ---- n blocks of 16
module _ (n : ℕ) (dc ac : ℕ → ℤ) (l : List ℤ) where
  pub blocks-length : length (blocks_dequantised n dc ac l) ≡ n * 16
  unfolding blocks_dequantised
  blocks-length = rows-length 16 n _

  -- coefficient i of block k
  pub blocks_at : (k i : ℕ) → k < n → i < 16
      → get_or (blocks_dequantised n dc ac l) (k * 16 + i) (pos 0) ≡ dequant (get_or l (k * 16 + i) (pos 0)) (pick (eqb i 0) (dc k) (ac k))
  unfolding blocks_dequantised
  blocks_at k i h g = rows_at 16 n (λ k i. dequant (get_or l (k * 16 + i) (pos 0)) (pick (eqb i 0) (dc k) (ac k))) k i (pos 0) h g

  -- is that of the block by itself, as 14.1 has one block
  pub blocks-alone : (k i : ℕ) → k < n → i < 16
      → get_or (blocks_dequantised n dc ac l) (k * 16 + i) (pos 0) ≡ get_or (dequantised (take 16 (drop (k * 16) l)) (dc k) (ac k)) i (pos 0)
  blocks-alone k i h g = blocks_at k i h g ∙ one i g
    where
      within_block : (i : ℕ) → i < 16 → get_or (take 16 (drop (k * 16) l)) i (pos 0) ≡ get_or l (k * 16 + i) (pos 0)
      within_block i g = get_or-take 16 (drop (k * 16) l) i (pos 0) g ∙ get_or-drop (k * 16) l i (pos 0)

      one : (i : ℕ) → i < 16
          → dequant (get_or l (k * 16 + i) (pos 0)) (pick (eqb i 0) (dc k) (ac k)) ≡ get_or (dequantised (take 16 (drop (k * 16) l)) (dc k) (ac k)) i (pos 0)
      one zero g = sym (dequantised-first (take 16 (drop (k * 16) l)) (dc k) (ac k) ∙ ap (λ (x : ℤ). dequant x (dc k)) (within_block 0 g))
      one (suc i) g =
          rw (ne_eqb (suc i) 0 (λ e. omega arith))
          (sym (dequantised-later (take 16 (drop (k * 16) l)) (dc k) (ac k) (suc i) (omega arith) ∙ ap (λ (x : ℤ). dequant x (ac k)) (within_block (suc i) g)))

  -- a coefficient that is 0 is 0 after
  pub blocks-zero : (j : ℕ) → j < n * 16 → get_or l j (pos 0) ≡ pos 0 → get_or (blocks_dequantised n dc ac l) j (pos 0) ≡ pos 0
  blocks-zero j h e =
      let k = j / 16 in
      let i = j % 16 in
      let at : k * 16 + i ≡ j = omega arith in
      subst (λ (m : ℕ). get_or (blocks_dequantised n dc ac l) m (pos 0) ≡ pos 0) at
      (blocks_at k i (omega arith) (omega arith)
      ∙ ap (λ (x : ℤ). dequant x (pick (eqb i 0) (dc k) (ac k))) (ap (λ (m : ℕ). get_or l m (pos 0)) at ∙ e)
      ∙ zero-stays (pick (eqb i 0) (dc k) (ac k)))
