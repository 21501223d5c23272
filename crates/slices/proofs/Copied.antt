-- A copying loop, and what a copy leaves where the lengths agree or differ. Assumes nothing.
use mathlib.Core.Path.{◌≡◌, refl, sym, ◌∙◌}
use mathlib.Core.List.{List, [], ◌∷◌, ◌++◌}
use Prim.Native.Nat.{ℕ}
use native.Mathlib.Nat.{le_of_eq}
use native.Mathlib.Omega.{arith}
use lib.ListN.{length, get_or, set, drop}
use lib.Seq.{take_all}
use borrow.Author.Tests.{eq-eqb}
use Rattle.lists.specs.Lists.{table}
use Rattle.slices.specs.Copies.{or_zeros, put_in, copied}
use Rattle.lists.proofs.Table.{table_done, table-take}

module _ {A : Type 0} where
  -- a loop that fills d from the front with the elements of s has made it s
  pub table-copied : (n : ℕ) (s d xs : List A) (z : A) → xs ≡ table n (λ i. get_or s i z) ++ drop n d → length d ≡ n → length s ≡ n → xs ≡ s
  table-copied n s d xs z e p q =
      table_done n (λ i. get_or s i z) d xs e p ∙ table-take n s z (le_of_eq (sym q)) ∙ take_all n s (le_of_eq q)

  -- ---- where the length fits
  pub or-zeros-fit : (z : A) (n : ℕ) (s : List A) → length s ≡ n → or_zeros z n s ≡ s
  unfolding or_zeros
  or-zeros-fit z n s e = rw (eq-eqb n (length s) (sym e)) refl

  pub put_fit : (n : ℕ) (from to : List A) → length to ≡ n → put_in n from to ≡ from
  unfolding put_in
  put_fit n from to e = rw (eq-eqb (length to) n e) refl

  pub copied-fit : (from to : List A) → length to ≡ length from → copied from to ≡ from
  unfolding copied
  copied-fit from to e = rw (eq-eqb (length to) (length from) e) refl

-- a slice of one place
pub one_set : (l : List ℕ) (n : ℕ) → length l ≡ 1 → set l 0 n ≡ n ∷ []
one_set [] n e = absurd (omega (arith, e))
one_set (a ∷ []) n e = refl
one_set (a ∷ b ∷ l) n e = absurd (omega (arith, e))
