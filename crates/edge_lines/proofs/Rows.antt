-- Runs of bytes and rows of them, byte by byte.
--     pasted-there, pasted-beside     a run: what stands at a place that it took, and at one that it did not
--     put-there, put-beside           the same of rows
-- Assumes nothing.
use Prim.Native.Nat.{ℕ, zero, suc, ◌+◌, ◌*◌, ◌<◌, ◌≤◌}
use mathlib.Core.Path.{◌≡◌, refl, sym, ap, subst, ◌∙◌}
use mathlib.Core.Logic.{◌≢◌, ⊎_elim}
use mathlib.Core.List.{List}
use native.Mathlib.Nat.{eq-or-lt_of_le, le_of_suc-le-suc, not-suc-le-zero, le_refl, mul-le-mul_right}
use native.Mathlib.Omega.{arith}
use lib.ListN.{length, get_or}
use Rattle.lists.specs.Lists.{turns}
use Rattle.lists.proofs.Table.{table_at}
use Rattle.edge_lines.specs.Lines.{cut, pasted, Fits, row_turn, rows_put}
use Rattle.edge_lines.proofs.Stores.{length-stores, beside, there}

module _ (n at : ℕ) (q p : List ℕ) where
  pub length-pasted : length (pasted n at q p) ≡ length p
  unfolding pasted
  length-pasted = length-stores (λ k. at + k) (λ k. get_or q k 0) n p

  pub pasted-there : (k : ℕ) → k < n → at + k < length p → get_or (pasted n at q p) (at + k) 0 ≡ get_or q k 0
  unfolding pasted
  pasted-there k h g = there (λ k. at + k) (λ k. get_or q k 0) n p k (λ a b _ _ (e : at + a ≡ at + b). omega arith) h g

  pub pasted-beside : (j : ℕ) → ((k : ℕ) → k < n → j ≢ at + k) → get_or (pasted n at q p) j 0 ≡ get_or p j 0
  unfolding pasted
  pasted-beside j h = beside (λ k. at + k) (λ k. get_or q k 0) n p j h

-- rows that are at least their own width apart do not meet
pub rows_apart : (w at s k m d i : ℕ) → w ≤ s → k < m → d < w → i < w → at + k * s + d ≢ at + m * s + i
rows_apart w at s k m d i z p q r = λ (e : at + k * s + d ≡ at + m * s + i). let h : (k + 1) * s ≤ m * s = mul-le-mul_right s (omega arith) in omega arith

module _ (w at stride from step : ℕ) (o p : List ℕ) where
  unfoldable so_far : ℕ → List ℕ
  so_far m = turns m (row_turn w at stride from step o) p

  length_so_far : (m : ℕ) → length (so_far m) ≡ length p
  unfolding so_far turns
  length_so_far zero = refl
  length_so_far (suc m) = length-pasted w (at + m * stride) (cut w (from + m * step) o) (so_far m) ∙ length_so_far m

  beside-so-far : (m j : ℕ) → ((k d : ℕ) → k < m → d < w → j ≢ at + k * stride + d) → get_or (so_far m) j 0 ≡ get_or p j 0
  unfolding so_far turns
  beside-so-far zero j h = refl
  beside-so-far (suc m) j h =
      pasted-beside w (at + m * stride) (cut w (from + m * step) o) (so_far m) j (λ d q. h m d (le_refl (suc m)) q)
      ∙ beside-so-far m j (λ k d x y. h k d (omega arith) y)

  there-so-far : w ≤ stride → (m : ℕ) → ((k : ℕ) → k < m → at + k * stride + w ≤ length p) → (k d : ℕ) → k < m → d < w
      → get_or (so_far m) (at + k * stride + d) 0 ≡ get_or o (from + k * step + d) 0
  unfolding so_far turns
  there-so-far z zero t k d x y = absurd (not-suc-le-zero x)
  there-so-far z (suc m) t k d x y =
      ⊎_elim
      (λ (e : k ≡ m).
      let g : at + m * stride + w ≤ length p = t m (le_refl (suc m)) in
      ap (λ (i : ℕ). get_or (so_far (suc m)) (at + i * stride + d) 0) e
      ∙ pasted-there w (at + m * stride) (cut w (from + m * step) o) (so_far m) d y (subst (λ (i : ℕ). at + m * stride + d < i) (sym (length_so_far m)) (omega arith))
      ∙ table_at w (λ i. get_or o (from + m * step + i) 0) d 0 y
      ∙ ap (λ (i : ℕ). get_or o (from + i * step + d) 0) (sym e))
      (λ (g : k < m).
      pasted-beside w (at + m * stride) (cut w (from + m * step) o) (so_far m) (at + k * stride + d) (λ i q. rows_apart w at stride k m d i z g y q)
      ∙ there-so-far z m (λ i q. t i (omega arith)) k d g y)
      (eq-or-lt_of_le (le_of_suc-le-suc x))

  module _ (h : ℕ) where
    pub length-put : length (rows_put w h at stride from step o p) ≡ length p
    unfolding rows_put so_far
    length-put = length_so_far h

    pub put-beside : (j : ℕ) → ((k d : ℕ) → k < h → d < w → j ≢ at + k * stride + d) → get_or (rows_put w h at stride from step o p) j 0 ≡ get_or p j 0
    unfolding rows_put so_far
    put-beside j u = beside-so-far h j u

    pub put-there : w ≤ stride → Fits w h at stride p → (k d : ℕ) → k < h → d < w
        → get_or (rows_put w h at stride from step o p) (at + k * stride + d) 0 ≡ get_or o (from + k * step + d) 0
    unfolding rows_put so_far
    put-there z t k d x y = there-so-far z h t.inside k d x y

-- eight rows of eight in 128 bytes
pub fits-128 : (from step : ℕ) (e : List ℕ) → length e ≡ 128 → from + 7 * step + 8 ≤ 128 → Fits 8 8 from step e
fits-128 from step e size h =
    record { inside = λ k p. let u : k * step ≤ 7 * step = mul-le-mul_right step (omega arith) in subst (λ (m : ℕ). from + k * step + 8 ≤ m) (sym size) (omega arith) }
