-- Nine flags: a list is what a rule draws that gives each of its entries, and a test of all is a test of each. Assumes nothing.
use Rattle.std.proofs.Common.{◌≡◌, ℕ, zero, suc, ◌<◌, ◌↔◌, Bool, true, false, ◌&&◌, ltb, IsTrue, EachIndex, List, length, get_or, sym, refl, ◌∙◌, arith, ltb-true, ltb-false, lt-ltb}
use Rattle.std.proofs.lemmas.List.{take_all}
use Rattle.lists.specs.Lists.{table}
use Rattle.lists.proofs.Table.{table-take, table-ext}
use Rattle.partition.specs.Answers.{all_flags}

pub drawn_by : {A : Type 0} (n : ℕ) (d : A) (xs : List A) (f : ℕ → A) → length xs ≡ n → ((i : ℕ) → i < n → get_or xs i d ≡ f i) → xs ≡ table n f
drawn_by n d xs f l h = sym (take_all n xs (omega (arith, l))) ∙ sym (table-take n xs d (omega (arith, l))) ∙ table-ext n (λ i. get_or xs i d) f h

-- each of nine bytes is 0 or 1: by one test, and at each place
and-left : (a b : Bool) → a && b ≡ true → a ≡ true
and-left true b e = refl
and-left false b e = e

and-right : (a b : Bool) → a && b ≡ true → b ≡ true
and-right true b e = e
and-right false true e = refl
and-right false false e = e

abbrev low : List ℕ → ℕ → Bool
low l k = ltb (get_or l k 0) 2

-- the first n of them
upto : ℕ → List ℕ → Bool
upto zero l = true
upto (suc n) l = upto n l && low l n

upto-each : (n : ℕ) (l : List ℕ) → upto n l ≡ true → (k : ℕ) → k < n → get_or l k 0 < 2
unfolding upto
upto-each zero l e k h = absurd (omega (arith, h))
upto-each (suc n) l e k h = go (upto-each n l (and-left (upto n l) (low l n) e) k) (ltb k n) refl
  where
    go : (k < n → get_or l k 0 < 2) → (t : Bool) → ltb k n ≡ t → get_or l k 0 < 2
    go f true q = f (ltb-true k n q)
    go f false q = let z : k ≡ n = omega (arith, ltb-false k n q) in rw z (ltb-true (get_or l n 0) 2 (and-right (upto n l) (low l n) e))

each-upto : (n : ℕ) (l : List ℕ) → ((k : ℕ) → k < n → get_or l k 0 < 2) → upto n l ≡ true
unfolding upto
each-upto zero l h = refl
each-upto (suc n) l h = rw (each-upto n l (λ k q. h k (omega arith)), lt-ltb (get_or l n 0) 2 (h n (omega arith)))

all_upto : (l : List ℕ) → all_flags l ≡ upto 9 l
unfolding all_flags upto
all_upto l = refl

pub flags-known : (l : List ℕ) (b : Bool) → length l ≡ 9 → (IsTrue b ↔ EachIndex l (λ k. get_or l k 0 < 2)) → b ≡ all_flags l
flags-known l true n i = sym (all_upto l ∙ each-upto 9 l (λ k h. i.0 refl k (omega (arith, n, h))))
flags-known l false n i = go (all_flags l) refl
  where
    go : (t : Bool) → all_flags l ≡ t → false ≡ t
    go false e = refl
    go true e = i.1 (λ k h. upto-each 9 l (sym (all_upto l) ∙ e) k (omega (arith, n, h)))
