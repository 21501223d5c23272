-- 14.1: the two tables never fall, start at 4 and end at 157 and 284, so that any index gives a factor within these; and a dequantised block,
-- coefficient by coefficient: a 0 stays 0. What is computed of a table is ONE test, that no entry is above the next. Assumes nothing.
use mathlib.Core.Path.{◌≡◌, refl, sym, ap, ◌∙◌}
use mathlib.Core.Bool.{Bool}
use mathlib.Core.List.{List, [], ◌∷◌, map}
use Prim.Native.Nat.{ℕ, zero, suc, ◌<◌, ◌≤◌}
use native.Mathlib.Nat.{le_refl, le_trans, le_of_suc-le-suc, eq-or-lt_of_le, not-suc-le-zero}
use native.Mathlib.Omega.{arith}
use mathlib.Core.Logic.{⊎_elim}
use lib.Dec.{T, leb, leb→le}
use lib.IntN.{ℤ, pos, zero-*ℤ}
use lib.ListN.{length, get_or, length-map, get_or-map}
use Rattle.whole.specs.Whole.{narrow}
use Rattle.whole.proofs.Clamp.{clamp-≤}
use Rattle.lists.proofs.Every.{every, every-at}
use Rattle.rfc6386.specs.Quantiser.{dc_lookup, ac_lookup, clamp_index, dc_factor, ac_factor, dequant, dequantised}

-- ---- a table of 128 factors from 4 to `last`, none above the next
-- the test of an entry x at place i
abbrev rises : List ℕ → ℕ → ℕ → ℕ → Bool
rises t last i x = leb x (get_or t (suc i) last)

pub record Rising (t : List ℕ) (last : ℕ) : Type 0 where
  pub size : length t ≡ 128
  pub first : get_or t 0 0 ≡ 4
  pub ends : get_or t 127 0 ≡ last
  pub next : T (every (rises t last) 0 t)

pub dc-rising : Rising dc_lookup 157
unfolding dc_lookup
dc-rising = record { size = refl; first = refl; ends = refl; next = tt }

pub ac-rising : Rising ac_lookup 284
unfolding ac_lookup
ac-rising = record { size = refl; first = refl; ends = refl; next = tt }

-- what stands at a place within the list does not turn on what is read past it
get_d_any : (t : List ℕ) (i d e : ℕ) → i < length t → get_or t i d ≡ get_or t i e
get_d_any [] i d e h = absurd (not-suc-le-zero h)
get_d_any (x ∷ xs) zero d e h = refl
get_d_any (x ∷ xs) (suc i) d e h = get_d_any xs i d e (le_of_suc-le-suc h)

module _ (t : List ℕ) (last : ℕ) (r : Rising t last) where
  one_on : (i : ℕ) → suc i < 128 → get_or t i 0 ≤ get_or t (suc i) 0
  one_on i h =
      let s : suc i < length t = omega (arith, r.size) in
      rw (get_d_any t (suc i) 0 last s) (leb→le _ _ (every-at (rises t last) t r.next i (omega arith)))

  pub never-falls : (i j : ℕ) → i ≤ j → j < 128 → get_or t i 0 ≤ get_or t j 0
  never-falls i zero p h = let e : i ≡ 0 = omega arith in rw e (le_refl _)
  never-falls i (suc j) p h =
      ⊎_elim (λ e. rw e (le_refl _)) (λ l. le_trans (never-falls i j (le_of_suc-le-suc l) (omega arith)) (one_on j h)) (eq-or-lt_of_le p)

  pub within : (i : ℕ) → i < 128 → (4 ≤ get_or t i 0) × (get_or t i 0 ≤ last)
  within i h = (
    omega (arith, r.first, never-falls 0 i (omega arith) h),
    omega (arith, r.ends, never-falls i 127 (omega arith) (omega arith)),
  )

-- ---- any index gives a factor of its table
-- z is the entry of t at a place, and is from 4 to `last`
pub record Factor (t : List ℕ) (last : ℕ) (z : ℤ) : Type 0 where
  pub place : ℕ
  pub in_table : place < 128
  pub is : z ≡ pos (get_or t place 0)
  pub least : 4 ≤ get_or t place 0
  pub most : get_or t place 0 ≤ last

pub index-in-table : (q : ℤ) → clamp_index q < 128
unfolding clamp_index
index-in-table q = omega (arith, clamp-≤ 127 q)

pub dc-factor-in-table : (q : ℤ) → Factor dc_lookup 157 (dc_factor q)
unfolding dc_factor
dc-factor-in-table q =
    let h = index-in-table q in
    let w = within dc_lookup 157 dc-rising (clamp_index q) h in
    record { place = clamp_index q; in_table = h; is = refl; least = w.0; most = w.1 }

pub ac-factor-in-table : (q : ℤ) → Factor ac_lookup 284 (ac_factor q)
unfolding ac_factor
ac-factor-in-table q =
    let h = index-in-table q in
    let w = within ac_lookup 284 ac-rising (clamp_index q) h in
    record { place = clamp_index q; in_table = h; is = refl; least = w.0; most = w.1 }

-- ---- a dequantised block
pub zero-stays : (factor : ℤ) → dequant (pos 0) factor ≡ pos 0
unfolding dequant narrow
zero-stays factor = rw (zero-*ℤ factor)

pub dequantised-length : (l : List ℤ) (dc ac : ℤ) → length (dequantised l dc ac) ≡ length l
unfolding dequantised
dequantised-length [] dc ac = refl
dequantised-length (x ∷ xs) dc ac = ap suc (length-map xs (λ (y : ℤ). dequant y ac))

pub dequantised-first : (l : List ℤ) (dc ac : ℤ) → get_or (dequantised l dc ac) 0 (pos 0) ≡ dequant (get_or l 0 (pos 0)) dc
unfolding dequantised
dequantised-first [] dc ac = sym (zero-stays dc)
dequantised-first (x ∷ xs) dc ac = refl

pub dequantised-later : (l : List ℤ) (dc ac : ℤ) (k : ℕ) → 1 ≤ k → get_or (dequantised l dc ac) k (pos 0) ≡ dequant (get_or l k (pos 0)) ac
unfolding dequantised
dequantised-later [] dc ac k h = sym (zero-stays ac)
dequantised-later (x ∷ xs) dc ac zero h = absurd (not-suc-le-zero h)
dequantised-later (x ∷ xs) dc ac (suc k) h =
    ap (λ (d : ℤ). get_or (map (λ (y : ℤ). dequant y ac) xs) k d) (sym (zero-stays ac)) ∙ get_or-map (λ (y : ℤ). dequant y ac) xs k (pos 0)

-- a coefficient that is 0 is 0 after
pub zero-kept : (l : List ℤ) (dc ac : ℤ) (k : ℕ) → get_or l k (pos 0) ≡ pos 0 → get_or (dequantised l dc ac) k (pos 0) ≡ pos 0
zero-kept l dc ac zero e = dequantised-first l dc ac ∙ rw e (zero-stays dc)
zero-kept l dc ac (suc k) e = dequantised-later l dc ac (suc k) (omega arith) ∙ rw e (zero-stays ac)
