-- A loop that stores: what stands at a place that it wrote, and at one that it did not. Assumes nothing.
use Prim.Native.Nat.{ℕ, zero, suc, ◌<◌}
use mathlib.Core.Path.{◌≡◌, refl, sym, subst, ◌∙◌}
use mathlib.Core.Logic.{◌≢◌, ⊎_elim}
use mathlib.Core.List.{List}
use native.Mathlib.Nat.{eq-or-lt_of_le, le_of_suc-le-suc, not-suc-le-zero, le_refl}
use native.Mathlib.Omega.{arith}
use lib.ListN.{length, get_or, set, length-set}
use lib.Seq.{get_or-set_same, get_or-set_other}
use Rattle.lists.specs.Lists.{turns, store}

module _ (ix v : ℕ → ℕ) where
  pub length-stores : (n : ℕ) (l : List ℕ) → length (turns n (store ix v) l) ≡ length l
  unfolding turns
  length-stores zero l = refl
  length-stores (suc n) l = length-set (turns n (store ix v) l) (ix n) (v n) ∙ length-stores n l

  pub beside : (n : ℕ) (l : List ℕ) (j : ℕ) → ((k : ℕ) → k < n → j ≢ ix k) → get_or (turns n (store ix v) l) j 0 ≡ get_or l j 0
  unfolding turns
  beside zero l j h = refl
  beside (suc n) l j h = get_or-set_other (turns n (store ix v) l) (ix n) j (v n) 0 (h n (le_refl (suc n))) ∙ beside n l j (λ k p. h k (omega arith))

  pub there : (n : ℕ) (l : List ℕ) (k : ℕ) → ((a b : ℕ) → a < n → b < n → ix a ≡ ix b → a ≡ b) → k < n → ix k < length l
      → get_or (turns n (store ix v) l) (ix k) 0 ≡ v k
  unfolding turns
  there zero l k d p q = absurd (not-suc-le-zero p)
  there (suc n) l k d p q =
      ⊎_elim
      (λ e.
      subst
      (λ (m : ℕ). get_or (set (turns n (store ix v) l) (ix n) (v n)) (ix m) 0 ≡ v m)
      (sym e)
      (get_or-set_same (turns n (store ix v) l) (ix n) (v n) 0 (subst (λ (m : ℕ). ix n < m) (sym (length-stores n l)) (subst (λ (m : ℕ). ix m < length l) e q))))
      (λ g.
      get_or-set_other (turns n (store ix v) l) (ix n) (ix k) (v n) 0 (λ f. let z : k ≡ n = d k n p (le_refl (suc n)) f in omega arith)
      ∙ there n l k (λ a b x y f. d a b (omega arith) (omega arith) f) g q)
      (eq-or-lt_of_le (le_of_suc-le-suc p))
