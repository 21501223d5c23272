-- A row of a block put into its plane as one part of it is the turns that store its pixels. Assumes nothing.
use Prim.Native.Nat.{ℕ, zero, suc, ◌+◌, ◌-◌, ◌≤◌}
use mathlib.Core.Path.{◌≡◌, refl, sym, ap, ◌∙◌}
use mathlib.Core.List.{List, ◌++◌}
use native.Mathlib.Nat.{le_of_lt}
use native.Mathlib.Numerals.{add-one}
use native.Mathlib.Omega.{arith}
use lib.ListN.{length, get_or, set, take, drop, take-append-drop, length-drop}
use lib.Seq.{length-take-le}
use Rattle.lists.specs.Lists.{turns, store, table, part}
use Rattle.lists.proofs.Cut.{part-take}
use Rattle.lists.proofs.Parts.{set_after}
use Rattle.lists.proofs.Table.{table_more}
use Rattle.lists.proofs.Turns.{turns-after}

-- n stores from the front
stored : (n : ℕ) (f : ℕ → ℕ) (z : List ℕ) → n ≤ length z → turns n (store (λ i. i) f) z ≡ table n f ++ drop n z
unfolding turns table
stored zero f z h = refl
stored (suc n) f z h =
    let q : n + 1 ≡ suc n = add-one n in
    let k : set (table n f ++ drop n z) n (f n) ≡ table (n + 1) f ++ drop (n + 1) z = table_more n f z h in
    ap (λ (l : List ℕ). set l n (f n)) (stored n f z (le_of_lt h)) ∙ (rw q at k)

shifted : (p m : List ℕ) (at k a : ℕ) → length p ≡ at → set (p ++ m) (at + k) a ≡ p ++ set m k a
shifted p m at k a e = rw (← e) (set_after p m k a)

stored-at : (n at : ℕ) (v : ℕ → ℕ) (l : List ℕ) → at + n ≤ length l
    → turns n (store (λ x. at + x) v) l ≡ take at l ++ (table n v ++ drop n (drop at l))
stored-at n at v l h =
    let e : length (take at l) ≡ at = length-take-le at l (omega arith) in
    ap (λ (m : List ℕ). turns n (store (λ x. at + x) v) m) (sym (take-append-drop at l))
    ∙ turns-after n (store (λ x. at + x) v) (store (λ i. i) v) (take at l) (drop at l) (λ k m. shifted (take at l) m at k (v k) e)
    ∙ ap (λ (m : List ℕ). take at l ++ m) (stored n v (drop at l) (simp length-drop (omega arith)))

pub row-laid : (n at from : ℕ) (plane block : List ℕ) → at + n ≤ length plane → from + n ≤ length block
    → take at plane ++ (take (from + n - from) (drop from block) ++ drop (at + n - at) (drop at plane))
    ≡ turns n (store (λ x. at + x) (λ x. get_or block (from + x) 0)) plane
unfolding part
row-laid n at from plane block h k =
    let e : from + n - from ≡ n = omega arith in
    let d : at + n - at ≡ n = omega arith in
    let t : part n block from ≡ take n (drop from block) = part-take n from block k in
    rw (e, d, ← t) (sym (stored-at n at (λ x. get_or block (from + x) 0) plane h))
