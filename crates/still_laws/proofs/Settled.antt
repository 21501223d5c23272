-- What no turn of a loop from turn k on changes is at its end as the first k turns left it. Assumes nothing.
use Prim.Native.Nat.{ℕ, zero, suc, ◌<◌, ◌≤◌}
use mathlib.Core.Path.{◌≡◌, ◌∙◌}
use mathlib.Core.Logic.{⊎_elim}
use native.Mathlib.Nat.{eq-or-lt_of_le, le_of_suc-le-suc, le_refl}
use native.Mathlib.Omega.{arith}
use Rattle.lists.specs.Lists.{turns}

module _ {A B : Type 0} (g : A → B) (f : ℕ → A → A) (x : A) where
  pub turns-settled : (k m : ℕ) → k ≤ m → ((j : ℕ) → k ≤ j → j < m → g (f j (turns j f x)) ≡ g (turns j f x))
      → g (turns m f x) ≡ g (turns k f x)
  unfolding turns
  turns-settled k zero l h = let e : k ≡ 0 = omega arith in rw e
  turns-settled k (suc m) l h =
      ⊎_elim (λ e. rw e) (λ q. h m (le_of_suc-le-suc q) (le_refl (suc m)) ∙ turns-settled k m (le_of_suc-le-suc q) (λ j a b. h j a (omega arith)))
      (eq-or-lt_of_le l)
