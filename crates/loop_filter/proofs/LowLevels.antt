-- The test of the levels holds exactly where each is at most 63. Assumes nothing.
use Prim.Native.Nat.{ℕ, zero, suc, ◌<◌, ◌≤◌}
use mathlib.Core.Path.{◌≡◌, refl, sym, subst, ◌∙◌}
use mathlib.Core.Logic.{⊎_elim, ◌↔◌}
use mathlib.Core.Bool.{Bool, true, false, ◌&&◌}
use mathlib.Core.List.{List, [], ◌∷◌, ◌++◌}
use native.Mathlib.Nat.{eq-or-lt_of_le, le_of_suc-le-suc, not-suc-le-zero, le_of_lt, le_refl}
use native.Mathlib.Omega.{arith}
use lib.Dec.{leb}
use lib.ListN.{length, get_or, get_or-append}
use borrow.Author.Tests.{leb-true, le-leb}
use Rattle.std.specs.List.{All}
use Rattle.std.proofs.lemmas.Bool.{and_parts, and_from}
use Rattle.std.proofs.lemmas.List.{get_or_default, get_or_push, length_push}
use Rattle.std.proofs.lemmas.List.Elements.{All-push}
use Rattle.lists.specs.Lists.{turns}
use Rattle.lists.proofs.Tests.{left-holds, right-holds}
use Rattle.loop_filter.specs.declared.Levels.{Levels}
use Rattle.loop_filter.specs.declared.Levels.TheVariants.{One, Each}
use Rattle.loop_filter.specs.Picture.{level_turn, levels_ok, HasLevel, HasLevels}

so_far : (levels : List ℕ) (n : ℕ) → turns n (level_turn levels) true ≡ true → (k : ℕ) → k < n → get_or levels k 0 ≤ 63
unfolding turns
so_far levels zero e k p = absurd (not-suc-le-zero p)
so_far levels (suc n) e k p =
    ⊎_elim
    (λ (q : k ≡ n). subst (λ (i : ℕ). get_or levels i 0 ≤ 63) (sym q) (leb-true (get_or levels n 0) 63 (right-holds (turns n (level_turn levels) true) (leb (get_or levels n 0) 63) e)))
    (λ (q : k < n). so_far levels n (left-holds (turns n (level_turn levels) true) (leb (get_or levels n 0) 63) e) k q)
    (eq-or-lt_of_le (le_of_suc-le-suc p))

pub levels-low : (levels : List ℕ) → levels_ok levels ≡ true → (k : ℕ) → k < length levels → get_or levels k 0 ≤ 63
unfolding levels_ok
levels-low levels e k p = so_far levels (length levels) e k p

low_so_far : (levels : List ℕ) → All (λ m. m ≤ 63) levels → (n : ℕ) → n ≤ length levels → turns n (level_turn levels) true ≡ true
unfolding turns
low_so_far levels h zero p = refl
low_so_far levels h (suc n) p = rw (low_so_far levels h n (le_of_lt p), le-leb (get_or levels n 0) 63 (h n 0 p))

pub levels-ok-is : (b : Bool) (levels : List ℕ) → (b ≡ true) ↔ All (λ m. m ≤ 63) levels → b ≡ levels_ok levels
unfolding levels_ok
levels-ok-is b levels e = by b (turns (length levels) (level_turn levels) true) e refl
  where
    by : (b t : Bool) → (b ≡ true) ↔ All (λ m. m ≤ 63) levels → turns (length levels) (level_turn levels) true ≡ t → b ≡ t
    by true true e f = refl
    by true false e f = sym (low_so_far levels (e.0 refl) (length levels) (le_refl (length levels))) ∙ f
    by false true e f = e.1 (λ k d p. subst (λ (m : ℕ). m ≤ 63) (get_or_default levels k 0 d p) (so_far levels (length levels) f k p))
    by false false e f = refl

-- one more level tested
pub low-more : (levels : List ℕ) (low : Bool) (m : ℕ) → (low ≡ true) ↔ All (λ m. m ≤ 63) levels → ((low && leb m 63) ≡ true) ↔ All (λ m. m ≤ 63) (levels ++ (m ∷ []))
low-more levels low m e = (
  λ h. All-push (λ m. m ≤ 63) levels m (e.0 (and_parts low (leb m 63) h).0) (leb-true m 63 (and_parts low (leb m 63) h).1),
  λ h. and_from low (leb m 63)
      (e.1 (λ k d p. subst (λ (i : ℕ). i ≤ 63) (get_or-append levels (m ∷ []) d k p) (h k d (rw length_push (omega arith)))))
      (le-leb m 63 (subst (λ (i : ℕ). i ≤ 63) (get_or_push levels m 0 (length levels) refl) (h (length levels) 0 (rw length_push (omega arith))))),
)

pub has-level : (levels : Levels) (n k : ℕ) → HasLevels levels n → k < n → HasLevel levels k
has-level (One level) n k e p = tt
has-level (Each levels) n k e p = subst (λ (m : ℕ). k < m) (sym e) p
