-- A table is looked through for a 0. Assumes nothing.
use Prim.Native.Nat.{ℕ, suc, ◌+◌, ◌≤◌, ◌<◌}
use mathlib.Core.Path.{◌≡◌, refl, ◌∙◌}
use mathlib.Core.List.{List}
use mathlib.Core.Bool.{Bool, true, false, ◌&&◌}
use lib.ListN.{get_or, drop, length}
use lib.Seq.{drop-cons, drop-length}
use lib.Dec.{ltb}
use native.Mathlib.Numerals.{add-one}
use native.Mathlib.Nat.{le_antisymm}
use Rattle.token_probs.specs.Answers.{no_zero}

and_assoc : (a b c : Bool) → (a && b) && c ≡ a && (b && c)
and_assoc true b c = refl
and_assoc false b c = refl

and-true : (a : Bool) → a ≡ a && true
and-true true = refl
and-true false = refl

-- the probabilities from i on, with one more looked at
pub zero_more : (ps : List ℕ) (i : ℕ) (a b : Bool) → i < length ps → b ≡ a && ltb 0 (get_or ps i 0) → a && no_zero (drop i ps) ≡ no_zero ps
    → b && no_zero (drop (i + 1) ps) ≡ no_zero ps
unfolding no_zero
zero_more ps i a b h e r = rw (e, add-one) (and_assoc a (ltb 0 (get_or ps i 0)) (no_zero (drop (suc i) ps)) ∙ (rw (drop-cons ps i 0 h) at r))

pub zero-done : (ps : List ℕ) (i : ℕ) (a : Bool) → i ≤ length ps → length ps ≤ i → a && no_zero (drop i ps) ≡ no_zero ps → a ≡ no_zero ps
unfolding no_zero
zero-done ps i a p q r = and-true a ∙ (rw (le_antisymm p q, drop-length ps) at r)
