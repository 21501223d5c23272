-- `within` of a whole list is the test of each of its numbers, from the front. Assumes nothing.
use Rattle.std.proofs.Common.{◌≡◌, refl, sym, ◌∙◌, ℕ, zero, suc, ◌≤◌, Bool, true, false, ◌&&◌, List, length, take, get_or, add-one, arith}
use Rattle.std.specs.Prelude.{leb}
use Rattle.std.specs.List.{list_all}
use Rattle.std.proofs.lemmas.List.{take_all}
use Rattle.std.proofs.lemmas.List.Folds.{list_all_more}
use Rattle.lists.specs.Lists.{within, both}

both-and : (a b : Bool) → both a b ≡ (b && a)
both-and true true = refl
both-and true false = refl
both-and false true = refl
both-and false false = refl

first-all : (m n : ℕ) (l : List ℕ) → n ≤ length l → within m n l ≡ list_all (λ x. leb x m) (take n l)
unfolding within
first-all m zero l h = refl
first-all m (suc n) l h =
    rw (first-all m n l (omega (arith, h))) (both-and (leb (get_or l n 0) m) (list_all (λ x. leb x m) (take n l)) ∙ sym (list_all_more (λ x. leb x m) l n 0 (omega (arith, h))) ∙ rw add-one refl)

pub within-all : (m : ℕ) (l : List ℕ) → within m (length l) l ≡ list_all (λ x. leb x m) l
within-all m l = first-all m (length l) l (omega arith) ∙ rw (take_all (length l) l (omega arith)) refl
