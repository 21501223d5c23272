-- The rule of the default probabilities, computed once over all 1,056, and what follows from it.
use mathlib.Core.Path.{◌≡◌, refl, sym, subst}
use mathlib.Core.Bool.{Bool, true, false}
use Prim.Native.Nat.{ℕ, ◌≤◌, ◌<◌}
use lib.Dec.{ltb, ltb→lt, T}
use borrow.Author.Tests.{ltb-true}
use native.Mathlib.Nat.{le_of_suc-le-suc}
use lib.ListN.{get_or, length, get_or-eq_default}
use Rattle.token_probs.specs.Defaults.{default_probs}
use Rattle.token_probs.specs.Answers.{no_zero}
use Rattle.lists.specs.Lists.{both}
use Rattle.lists.proofs.Every.{every-at}

right : ℕ → ℕ → Bool
right k x = both (ltb 0 x) (ltb x 256)

both-parts : (x : ℕ) → T (both (ltb 0 x) (ltb x 256)) → (1 ≤ x) × (x ≤ 255)
both-parts x t = go (ltb 0 x) refl t
  where
    go : (b : Bool) → ltb 0 x ≡ b → T (both b (ltb x 256)) → (1 ≤ x) × (x ≤ 255)
    go true e h = (ltb-true 0 x e, le_of_suc-le-suc (ltb→lt x 256 h))
    go false e h = absurd h

-- each default probability is from 1 to 255
pub default-rule : (i : ℕ) → i < 1056 → (1 ≤ get_or default_probs i 0) × (get_or default_probs i 0 ≤ 255)
unfolding default_probs right
default-rule i h = both-parts (get_or default_probs i 0) (every-at right default_probs tt i h)

-- they are taken: there are 1,056, and none is 0
pub defaults-all : length default_probs ≡ 1056
unfolding default_probs
defaults-all = refl

pub defaults-taken : no_zero default_probs ≡ true
unfolding default_probs no_zero
defaults-taken = refl

pub past_end : (i : ℕ) → 1056 ≤ i → get_or default_probs i 0 ≡ 0
past_end i h = get_or-eq_default default_probs 0 (subst (λ (n : ℕ). n ≤ i) (sym defaults-all) h)
