-- A promise of a reply beside what a lent slice holds, `r beside now out.exit ≡ answer`, in its two halves. Assumes nothing.
use mathlib.Core.Path.{◌≡◌, sym, ap, ◌∙◌}
use Rattle.lists.specs.Lists.{◌beside◌}

module _ {A B : Type 0} where
  pub pair : {x y : A} {s t : B} → x ≡ y → s ≡ t → (x beside s) ≡ (y beside t)
  pair {x} {y} {s} {t} p q = ap (λ (a : A). a beside s) p ∙ ap (λ (b : B). y beside b) q

  -- two answers that keep one promise are the same
  pub same-pair : {x y : A} {s t : B} {z : A × B} → (x beside s) ≡ z → (y beside t) ≡ z → (x ≡ y) × (s ≡ t)
  same-pair p q = (ap (λ (w : A × B). w.0) (p ∙ sym q), ap (λ (w : A × B). w.1) (p ∙ sym q))
