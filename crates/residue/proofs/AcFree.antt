-- The test for AC coefficients: as the machine makes it, and what it says where it holds: the transform is its DC-only form. Assumes nothing.
use mathlib.Core.Bool.{Bool, true, false}
use Rattle.std.specs.Prelude.{◌&&◌}
use Rattle.std.specs.List.{list_all}
use mathlib.Core.Logic.{⊎_elim}
use mathlib.Core.Path.{◌≡◌, refl, sym, ap, ◌∙◌}
use mathlib.Core.List.{List, [], ◌∷◌, ◌++◌}
use Prim.Native.Nat.{ℕ, zero, suc, ◌+◌, ◌<◌, ◌≤◌}
use lib.ListN.{length, get_or, take, drop, length-drop}
use lib.Seq.{take-suc, get_or-drop}
use native.Mathlib.Nat.{eq-or-lt_of_le, le_of_suc-le-suc, not-suc-le-zero}
use native.Mathlib.Omega.{arith}
use borrow.Author.Tests.{ne_eqb}
use lib.Dec.{eqb, eqb→eq}
use lib.IntN.{ℤ, pos, negsuc, nat_abs}
use lib.Signed.{mag}
use mir.Syntax.{w16}
use mir.Val.{of_z}
use Rattle.lists.specs.Lists.{both}
use Rattle.lists.proofs.Tests.{both-says, T_true}
use Rattle.whole.proofs.Held.{R16, held16}
use Rattle.rfc6386.specs.Dct.{entry, idct, idct_dc}
use Rattle.rfc6386.proofs.DctDc.{dc-only-is-full}
use Rattle.residue.specs.Answer.{zeros_to, ac_free}

-- the machine's test of a number of 16 bits
abbrev pub zero-test : ℤ → Bool
zero-test z = eqb (of_z w16 z) 0

tested : (z : ℤ) → mag z < 32768 → zero-test z ≡ eqb (nat_abs z) 0
tested (pos n) h = refl
tested (negsuc n) h = rw (ne_eqb (of_z w16 (negsuc n)) 0 (λ e. omega arith), ne_eqb (suc n) 0 (λ e. omega arith)) refl

all-snoc : (xs : List ℤ) (z : ℤ) → list_all zero-test (xs ++ (z ∷ [])) ≡ both (list_all zero-test xs) (zero-test z)
all-snoc [] z = by (zero-test z)
  where
    by : (b : Bool) → (b && true) ≡ b
    by true = refl
    by false = refl
all-snoc (x ∷ xs) z = by (zero-test x) (all-snoc xs z)
  where
    by : (b : Bool) → list_all zero-test (xs ++ (z ∷ [])) ≡ both (list_all zero-test xs) (zero-test z)
        → (b && list_all zero-test (xs ++ (z ∷ []))) ≡ both (b && list_all zero-test xs) (zero-test z)
    by true e = e
    by false e = refl

-- the fifteen coefficients after the first, tested one after another
module _ (l : List ℤ) (n : length l ≡ 16) (m : (k : ℕ) → mag (entry l k) < 32768) where
  abbrev others : List ℤ
  others = drop 1 l

  front : (k : ℕ) → k ≤ 15 → list_all zero-test (take k others) ≡ zeros_to k l
  unfolding zeros_to
  front zero h = refl
  front (suc k) h =
      let long : length others ≡ 15 = length-drop 1 l ∙ omega arith in
      let e : get_or others k (pos 0) ≡ entry l (k + 1) = get_or-drop 1 l k (pos 0) ∙ ap (λ (i : ℕ). entry l i) (omega arith) in
      ap (list_all zero-test) (take-suc others k (pos 0) (omega arith)) ∙ all-snoc (take k others) (get_or others k (pos 0))
      ∙ rw (front k (omega arith), e, tested (entry l (k + 1)) (m (k + 1))) refl

  pub zeros-tested : list_all zero-test (take 15 others) ≡ zeros_to 15 l
  zeros-tested = front 15 (omega arith)

zero_is : (z : ℤ) → nat_abs z ≡ 0 → z ≡ pos 0
zero_is (pos n) e = ap pos e
zero_is (negsuc n) e = absurd (never n e)
  where
    never : (n : ℕ) → suc n ≡ 0 → ⊥
    never n e = omega arith

-- where the test holds, coefficients 1 to n are 0
pub free-says : (l : List ℤ) (n : ℕ) → zeros_to n l ≡ true → (k : ℕ) → k < n → entry l (k + 1) ≡ pos 0
unfolding zeros_to
free-says l zero e k h = absurd (not-suc-le-zero h)
free-says l (suc n) e k h =
    let b = both-says (zeros_to n l) (eqb (nat_abs (entry l (n + 1))) 0) e in
    ⊎_elim
    (λ i. rw i (zero_is (entry l (n + 1)) (eqb→eq (nat_abs (entry l (n + 1))) 0 b.1)))
    (λ g. free-says l n (T_true (zeros_to n l) b.0) k g)
    (eq-or-lt_of_le (le_of_suc-le-suc h))

-- then the residue made of the first coefficient alone is the transform's
pub dc-way : (l res : List ℤ) → ac_free l ≡ true → mag (entry l 0) < 32768 → res ≡ idct_dc (R16 (entry l 0)) → res ≡ idct l
unfolding ac_free
dc-way l res t m e =
    e ∙ ap idct_dc (held16 (entry l 0) m) ∙ sym (dc-only-is-full l (free-says l 15 t) (record { sfits = m }))
