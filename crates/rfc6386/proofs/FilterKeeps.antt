-- What each filter leaves as it was: P3 and Q3 always, P2 and Q2 at an inner edge, P1 and Q1 in the simple filter. Assumes nothing.
use Prim.Native.Nat.{ℕ}
use mathlib.Core.Path.{◌≡◌, refl}
use mathlib.Core.Bool.{Bool, true, false}
use Rattle.macroblock.specs.declared.filter.Across.{Across}
use Rattle.macroblock.specs.declared.filter.Limits.{Limits}
use Rattle.macroblock.specs.declared.filter.Kind.TheVariants.{Simple, Inner}
use Rattle.lists.specs.Lists.{pick, both}
use Rattle.rfc6386.specs.LoopFilter.{near, smooth, steep, common, subblock, filtered}

-- a part that one answer keeps is kept by the choice
one : (f : Across → ℕ) (t : Bool) (y x : Across) → f y ≡ f x → f (pick t y x) ≡ f x
one f true y x e = e
one f false y x e = refl

two : (f : Across → ℕ) (s t : Bool) (y z x : Across) → f y ≡ f x → f z ≡ f x → f (pick s (pick t y z) x) ≡ f x
two f true true y z x e g = e
two f true false y z x e g = g
two f false t y z x e g = refl

module _ (l : Limits) (x : Across) where
  simple-keeps : (f : Across → ℕ) → f (common true x) ≡ f x → f (filtered Simple l x) ≡ f x
  unfolding filtered
  simple-keeps f h = one f (near l x) (common true x) x h

  inner-keeps : (f : Across → ℕ) → f (common true x) ≡ f x → f (subblock x) ≡ f x → f (filtered Inner l x) ≡ f x
  unfolding filtered
  inner-keeps f h k = two f (both (near l x) (smooth l x)) (steep l x) (common true x) (subblock x) x h k

  pub simple-p2 : (filtered Simple l x).p2 ≡ x.p2
  unfolding common
  simple-p2 = simple-keeps (λ y. y.p2) refl

  pub simple-p1 : (filtered Simple l x).p1 ≡ x.p1
  unfolding common
  simple-p1 = simple-keeps (λ y. y.p1) refl

  pub simple-q1 : (filtered Simple l x).q1 ≡ x.q1
  unfolding common
  simple-q1 = simple-keeps (λ y. y.q1) refl

  pub simple-q2 : (filtered Simple l x).q2 ≡ x.q2
  unfolding common
  simple-q2 = simple-keeps (λ y. y.q2) refl

  pub inner-p2 : (filtered Inner l x).p2 ≡ x.p2
  unfolding common subblock
  inner-p2 = inner-keeps (λ y. y.p2) refl refl

  pub inner-q2 : (filtered Inner l x).q2 ≡ x.q2
  unfolding common subblock
  inner-q2 = inner-keeps (λ y. y.q2) refl refl
