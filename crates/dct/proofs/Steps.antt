-- What a turn of each loop stores, as the machine has it, is what its definition says: each number that went through a local comes back as it was.
-- Assumes nothing.
use mathlib.Core.Path.{◌≡◌, refl, sym, ap, subst, ◌∙◌}
use mathlib.Core.List.{List, ◌++◌}
use Prim.Native.Nat.{ℕ, zero, suc, ◌+◌, ◌*◌, ◌≤◌}
use native.Mathlib.Nat.{le_of_lt}
use native.Mathlib.Numerals.{add-one}
use native.Mathlib.Omega.{arith}
use lib.IntN.{ℤ}
use lib.ListN.{length, set, take, drop, length-drop, take-append-drop}
use lib.Seq.{length-take-le}
use borrow.Rule.Slice.PartMut.{put_mid}
use Rattle.lists.specs.Lists.{table, turns, store}
use Rattle.lists.proofs.Table.{table_more, table_done}
use Rattle.lists.proofs.Turns.{turns-after}
use Rattle.lists.proofs.Parts.{set_after}
use Rattle.whole.proofs.Held.{R16, R32}
use Rattle.rfc6386.specs.Dct.{entry}
use Rattle.dct_line.specs.Lines.{line_of, row_of}
use Rattle.dct.specs.Turns.{stored, column_turn, row_turn}

-- read back as it was written, from 32 bits and from 16
abbrev Word : ℤ → Type 0
Word z = R32 z ≡ z

abbrev Half : ℤ → Type 0
Half z = R16 z ≡ z

pub column-turned : (w j : ℕ) (s t f : List ℤ)
    → f ≡ line_of (R32 (entry s j)) (R32 (entry s (j + w))) (R32 (entry s (j + w + w))) (R32 (entry s (j + w + w + w)))
    → Word (entry s j) → Word (entry s (j + w)) → Word (entry s (j + w + w)) → Word (entry s (j + w + w + w))
    → Word (entry f 0) → Word (entry f 1) → Word (entry f 2) → Word (entry f 3)
    → stored j (j + w) (j + w + w) (j + w + w + w) (R32 (entry f 0)) (R32 (entry f 1)) (R32 (entry f 2)) (R32 (entry f 3)) t ≡ column_turn w s j t
unfolding column_turn
column-turned w j s t f e h0 h1 h2 h3 k0 k1 k2 k3 =
    let g : f ≡ line_of (entry s j) (entry s (j + w)) (entry s (j + w + w)) (entry s (j + w + w + w)) = e ∙ rw (h0, h1, h2, h3) refl in
    rw (k0, k1, k2, k3) (rw g refl)

pub row-turned : (q : ℕ) (t o f : List ℤ)
    → f ≡ row_of (R32 (entry t (4 * q))) (R32 (entry t (4 * q + 1))) (R32 (entry t (4 * q + 2))) (R32 (entry t (4 * q + 3)))
    → Word (entry t (4 * q)) → Word (entry t (4 * q + 1)) → Word (entry t (4 * q + 2)) → Word (entry t (4 * q + 3))
    → Half (entry f 0) → Half (entry f 1) → Half (entry f 2) → Half (entry f 3)
    → stored (4 * q) (4 * q + 1) (4 * q + 2) (4 * q + 3) (R16 (entry f 0)) (R16 (entry f 1)) (R16 (entry f 2)) (R16 (entry f 3)) o ≡ row_turn t q o
unfolding row_turn
row-turned q t o f e h0 h1 h2 h3 k0 k1 k2 k3 =
    let g : f ≡ row_of (entry t (4 * q)) (entry t (4 * q + 1)) (entry t (4 * q + 2)) (entry t (4 * q + 3)) = e ∙ rw (h0, h1, h2, h3) refl in
    rw (k0, k1, k2, k3) (rw g refl)

-- a part of n numbers from `at` on, written one a turn and put back into the whole
module _ (f : ℕ → ℤ) where
  front : (n : ℕ) (l : List ℤ) → n ≤ length l → turns n (store (λ k. k) f) l ≡ table n f ++ drop n l
  unfolding turns table
  front zero l h = refl
  front (suc n) l h = ap (λ (m : List ℤ). set m n (f n)) (front n l (le_of_lt h)) ∙ table_more n f l h ∙ rw add-one

  pub part-stored : (n m at i : ℕ) (l xs : List ℤ) → m ≡ n → at + n ≤ length l
      → let d = take m (drop at l) in
      i ≡ length d → xs ≡ table i f ++ drop i d → put_mid at m l xs ≡ turns n (store (λ k. at + k) f) l
  part-stored n m at i l xs s h full e =
      let p = take at l in
      let q = drop at l in
      let at-is : length p ≡ at = length-take-le at l (omega arith) in
      let long : n ≤ length q = simp length-drop (omega arith) in
      let k : i ≡ n = full ∙ rw s (length-take-le n q long) in
      ap (λ (y : List ℤ). p ++ (y ++ drop m q)) (table_done i f (take m q) xs e (sym full))
      ∙ rw (s, k) (ap (λ (y : List ℤ). p ++ y) (sym (front n q long)))
      ∙ sym (turns-after n (store (λ j. at + j) f) (store (λ j. j) f) p q
      (λ j y. subst (λ (a : ℕ). set (p ++ y) (a + j) (f j) ≡ p ++ set y j (f j)) at-is (set_after p y j (f j))))
      ∙ ap (λ (y : List ℤ). turns n (store (λ j. at + j) f) y) (take-append-drop at l)
