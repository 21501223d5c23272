-- A pass column by column: what a turn of its loop stores, how large its results are, and that two passes, rounded, are the inverse WHT.
-- Assumes nothing.
use mathlib.Core.Path.{◌≡◌, refl, ap, ◌∙◌}
use mathlib.Core.List.{List, ◌++◌}
use Prim.Native.Nat.{ℕ, ◌+◌, ◌*◌, ◌/◌, ◌%◌, ◌<◌, ◌≤◌}
use native.Mathlib.Nat.{le_trans}
use native.Mathlib.Decide.{dec_lt}
use native.Mathlib.Omega.{arith}
use lib.IntN.{ℤ, pos, nat_abs}
use lib.ListN.{length, get_or, set, drop, get_or-eq_default}
use Rattle.lists.specs.Lists.{table, rows}
use Rattle.lists.proofs.Table.{table-turn, table_at, table-length}
use Rattle.whole.proofs.Held.{R32}
use Rattle.whole.proofs.Chain.{Is, known, held, bound}
use Rattle.rfc6386.specs.Wht.{wht_pass, wht_column, wht_at, iwht}
use Rattle.rfc6386.proofs.Wht.{column-sums, column-bound}
use Rattle.wht.specs.Pass.{Small, Within, line_of, passed_at, passed, rounded_of}

-- ---- two passes, rounded, are the transform
pub two-passes : (l : List ℤ) → rounded_of (passed (passed l)) ≡ iwht l
unfolding rounded_of passed iwht wht_at wht_column rows table
two-passes l = refl

-- ---- how large the results are
pub within-from : (B : ℕ) (l : List ℤ) → length l ≡ 16 → ((k : ℕ) → k < 16 → nat_abs (get_or l k (pos 0)) ≤ B) → Within B l
within-from B l e h = record { within = λ k. by k (dec_lt k 16) }
  where
    by : (k : ℕ) → Dec (k < 16) → nat_abs (get_or l k (pos 0)) ≤ B
    by k (yes p) = h k p
    by k (no p) = rw (get_or-eq_default l (pos 0) {n = k} (omega arith)) (omega arith)

pub within_more : (B C : ℕ) → B ≤ C → {l : List ℤ} → Within B l → Within C l
within_more B C h w = record { within = λ k. le_trans (w.within k) h }

pub passed-within : (B : ℕ) (l : List ℤ) → Within B l → Within (4 * B) (passed l)
unfolding passed
passed-within B l w =
    within-from (4 * B) (table 16 (passed_at l)) (table-length 16 (passed_at l))
    (λ k p. rw (table_at 16 (passed_at l) k (pos 0) p) (column-bound B (λ j. get_or l j (pos 0)) w.within (k % 4) (k / 4)))

-- ---- a turn
-- four stores, one after the other, in a list that is filled from the front
four-turns : (n : ℕ) (f : ℕ → ℤ) (v0 v1 v2 v3 : ℤ) (d t : List ℤ) → t ≡ table n f ++ drop n d → n + 3 < length d
    → v0 ≡ f n → v1 ≡ f (n + 1) → v2 ≡ f (n + 2) → v3 ≡ f (n + 3)
    → set (set (set (set t n v0) (n + 1) v1) (n + 2) v2) (n + 3) v3 ≡ table (n + 4) f ++ drop (n + 4) d
four-turns n f v0 v1 v2 v3 d t e h p0 p1 p2 p3 =
    let s0 = table-turn n f v0 d t e p0 (omega arith) in
    let s1 = table-turn (n + 1) f v1 d (set t n v0) s0 p1 (omega arith) in
    let s2 = table-turn (n + 2) f v2 d (set (set t n v0) (n + 1) v1) (rw at2 at s1) p2 (omega arith) in
    rw at4 at (table-turn (n + 3) f v3 d (set (set (set t n v0) (n + 1) v1) (n + 2) v2) (rw at3 at s2) p3 (omega arith))
  where
    at2 : n + 1 + 1 ≡ n + 2
    at2 = omega arith

    at3 : n + 2 + 1 ≡ n + 3
    at3 = omega arith

    at4 : n + 3 + 1 ≡ n + 4
    at4 = omega arith

module _ (x : List ℤ) (c : ℕ) (w : Within 131072 x) where
  abbrev at : ℕ → ℤ
  at k = get_or x k (pos 0)

  -- the four numbers of column c as the machine hands them over
  read : (k : ℕ) → Is 131072 (R32 (at k)) (at k)
  read k = held (known (at k) (w.within k)) tt

  pub column-small : Small 131072 (R32 (at c)) (R32 (at (4 + c))) (R32 (at (8 + c))) (R32 (at (12 + c)))
  column-small = record { s0 = bound (read c); s1 = bound (read (4 + c)); s2 = bound (read (8 + c)); s3 = bound (read (12 + c)) }

  abbrev result : ℕ → ℤ
  result k = wht_pass k (at c) (at (4 + c)) (at (8 + c)) (at (12 + c))

  result-back : (k : ℕ) → R32 (result k) ≡ result k
  result-back k = (held (known (result k) ((column-sums 131072 at w.within c).result k)) tt).is

  result-at : (n k : ℕ) → n % 4 ≡ k → n / 4 ≡ c → result k ≡ passed_at x n
  unfolding wht_column
  result-at n k p q = rw (p, q)

  pub pass-turn : (f : List ℤ) (v0 v1 v2 v3 : ℤ) (d t : List ℤ) → f ≡ line_of (R32 (at c)) (R32 (at (4 + c))) (R32 (at (8 + c))) (R32 (at (12 + c)))
      → v0 ≡ R32 (get_or f 0 (pos 0)) → v1 ≡ R32 (get_or f 1 (pos 0)) → v2 ≡ R32 (get_or f 2 (pos 0)) → v3 ≡ R32 (get_or f 3 (pos 0))
      → c < 4 → length d ≡ 16 → t ≡ table (4 * c) (passed_at x) ++ drop (4 * c) d
      → set (set (set (set t (4 * c) v0) (4 * c + 1) v1) (4 * c + 2) v2) (4 * c + 3) v3
      ≡ table (4 * (c + 1)) (passed_at x) ++ drop (4 * (c + 1)) d
  unfolding line_of
  pass-turn f v0 v1 v2 v3 d t e p0 p1 p2 p3 l h q =
      let n : 4 * (c + 1) ≡ 4 * c + 4 = omega arith in
      let i : f ≡ line_of (at c) (at (4 + c)) (at (8 + c)) (at (12 + c)) = e ∙ rw ((read c).is, (read (4 + c)).is, (read (8 + c)).is, (read (12 + c)).is) in
      let g : (k : ℕ) → R32 (get_or f k (pos 0)) ≡ R32 (get_or (line_of (at c) (at (4 + c)) (at (8 + c)) (at (12 + c))) k (pos 0)) = λ k. ap (λ (g : List ℤ). R32 (get_or g k (pos 0))) i in
      rw n
      (four-turns (4 * c) (passed_at x) _ _ _ _ d t q (omega arith)
      (p0 ∙ g 0 ∙ result-back 0 ∙ result-at (4 * c) 0 (omega arith) (omega arith))
      (p1 ∙ g 1 ∙ result-back 1 ∙ result-at (4 * c + 1) 1 (omega arith) (omega arith))
      (p2 ∙ g 2 ∙ result-back 2 ∙ result-at (4 * c + 2) 2 (omega arith) (omega arith))
      (p3 ∙ g 3 ∙ result-back 3 ∙ result-at (4 * c + 3) 3 (omega arith) (omega arith)))
