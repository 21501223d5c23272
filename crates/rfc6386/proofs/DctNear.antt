-- How far the inverse DCT in whole numbers lies from the exact one, for every block. A pass takes an interval to an interval, by one law for
-- columns and rows (`near-pass`); then comes the closing rounding (`near-residue`).
-- Assumes nothing.
use Prim.Native.Nat.{ℕ, zero, suc, ◌+◌, ◌*◌, ◌<◌}
use native.Mathlib.Omega.{arith}
use lib.Dec.{lit<}
use lib.IntN.{ℤ, pos, ◌+ℤ◌, ◌-ℤ◌, ◌*ℤ◌}
use lib.Signed.{◌≤ℤ◌, shr_z}
use Rattle.whole.proofs.Linear.{split, split2, split3, split4, linear}
use Rattle.whole.proofs.Order.{*ℤ-mono}
use Rattle.whole.proofs.Floor.{Floor, floor}
use Rattle.rfc6386.specs.Dct.{pass, column, passes, exact, unbounded, residue_plain, T}
use Rattle.rfc6386.proofs.DctPass.{S-floor, K-floor}

-- the exact E lies between D i - lo and D i + hi
abbrev pub Near : ℕ → ℕ → ℕ → ℤ → ℤ → Type 0
Near D lo hi E i = ((pos D *ℤ i) ≤ℤ (E +ℤ pos lo)) × (E ≤ℤ (pos D *ℤ i +ℤ pos hi))

-- ---- one floor, of E / 65536, in a sum that counts everything D times
scaled : (D : ℕ) (E i : ℤ) → Floor 65536 E i → Near (65536 * D) 0 (65535 * D) (pos D *ℤ E) i
scaled D E i f = at D E i (*ℤ-mono D _ _ (low E i f)) (*ℤ-mono D _ _ (high E i f))
  where
    low : (E i : ℤ) → Floor 65536 E i → (pos 65536 *ℤ i) ≤ℤ E
    low = split2 _ λ _ _ _ _. simp linear (omega arith)

    high : (E i : ℤ) → Floor 65536 E i → E ≤ℤ (pos 65536 *ℤ i +ℤ pos 65535)
    high = split2 _ λ _ _ _ _. simp linear (omega arith)

    at : (D : ℕ) (E i : ℤ) → (pos D *ℤ (pos 65536 *ℤ i)) ≤ℤ (pos D *ℤ E) → (pos D *ℤ E) ≤ℤ (pos D *ℤ (pos 65536 *ℤ i +ℤ pos 65535))
        → Near (65536 * D) 0 (65535 * D) (pos D *ℤ E) i
    at D = split2 _ λ _ _ _ _. simp linear (omega arith)

near-S : (D : ℕ) (x : ℤ) → Near (65536 * D) 0 (65535 * D) (pos D *ℤ (x *ℤ pos 35468)) (unbounded.S x)
near-S D x = scaled D (x *ℤ pos 35468) (unbounded.S x) (S-floor x)

near-K : (D : ℕ) (x : ℤ) → Near (65536 * D) 0 (65535 * D) (pos D *ℤ (x *ℤ pos 85627)) (unbounded.K x)
near-K D x = scaled D (x *ℤ pos 85627) (unbounded.K x) (K-floor x)

-- ---- one pass
-- the interval of result k, from that of the four entries: the plain entries weigh 65536, the odd ones 85627 and 35468, and each of the two
-- floors loses less than 1
abbrev pub low : ℕ → ℕ → ℕ → ℕ → ℕ
low zero D lo hi = 252167 * lo
low (suc zero) D lo hi = 101004 * lo + 151163 * hi + 65535 * D
low (suc (suc zero)) D lo hi = 151163 * lo + 101004 * hi + 65535 * D
low (suc (suc (suc k))) D lo hi = 131072 * lo + 121095 * hi + 131070 * D

abbrev pub high : ℕ → ℕ → ℕ → ℕ → ℕ
high zero D lo hi = 252167 * hi + 131070 * D
high (suc zero) D lo hi = 101004 * hi + 151163 * lo + 65535 * D
high (suc (suc zero)) D lo hi = 151163 * hi + 101004 * lo + 65535 * D
high (suc (suc (suc k))) D lo hi = 131072 * hi + 121095 * lo

-- u and v are the two floors of the result: of 85627 times one odd entry, and of 35468 times the other
abbrev Linear : (ℕ → ℕ → ℕ → ℕ) → (ℕ → ℕ → ℕ → ℕ) → (ℤ → ℤ → ℤ → ℤ → ℤ) → Type 0
Linear lo' hi' f =
    (D lo hi : ℕ) (E F G H p q r s u v : ℤ) → Near D lo hi E p → Near D lo hi F q → Near D lo hi G r → Near D lo hi H s
    → Near (65536 * D) 0 (65535 * D) (pos D *ℤ (q *ℤ pos 85627)) u
    → Near (65536 * D) 0 (65535 * D) (pos D *ℤ (s *ℤ pos 35468)) v
    → Near (65536 * D) (lo' D lo hi) (hi' D lo hi) (f (E *ℤ pos 65536) (G *ℤ pos 65536) (F *ℤ pos 85627) (H *ℤ pos 35468)) (f p r u v)

linear0 : Linear (low 0) (high 0) (λ p r u v. p +ℤ r +ℤ (u +ℤ v))
linear0 D lo hi = split4 _ λ _ _ _ _ _ _ _ _. split4 _ λ _ _ _ _ _ _ _ _. split2 _ λ _ _ _ _. simp linear (omega arith)

linear1 : Linear (low 1) (high 1) (λ p r u v. p -ℤ r +ℤ (v -ℤ u))
linear1 D lo hi = split4 _ λ _ _ _ _ _ _ _ _. split4 _ λ _ _ _ _ _ _ _ _. split2 _ λ _ _ _ _. simp linear (omega arith)

linear2 : Linear (low 2) (high 2) (λ p r u v. p -ℤ r -ℤ (v -ℤ u))
linear2 D lo hi = split4 _ λ _ _ _ _ _ _ _ _. split4 _ λ _ _ _ _ _ _ _ _. split2 _ λ _ _ _ _. simp linear (omega arith)

linear3 : Linear (low 3) (high 3) (λ p r u v. p +ℤ r -ℤ (u +ℤ v))
linear3 D lo hi = split4 _ λ _ _ _ _ _ _ _ _. split4 _ λ _ _ _ _ _ _ _ _. split2 _ λ _ _ _ _. simp linear (omega arith)

pub near-pass : (k D lo hi : ℕ) (E F G H p q r s : ℤ) → Near D lo hi E p → Near D lo hi F q → Near D lo hi G r → Near D lo hi H s
    → Near (65536 * D) (low k D lo hi) (high k D lo hi) (pass exact k E F G H) (pass unbounded k p q r s)
unfolding pass
near-pass zero D lo hi E F G H p q r s e f g h =
    linear0 D lo hi E F G H p q r s (unbounded.K q) (unbounded.S s) e f g h (near-K D q) (near-S D s)
near-pass (suc zero) D lo hi E F G H p q r s e f g h =
    linear1 D lo hi E H G F p s r q (unbounded.K s) (unbounded.S q) e h g f (near-K D s) (near-S D q)
near-pass (suc (suc zero)) D lo hi E F G H p q r s e f g h =
    linear2 D lo hi E H G F p s r q (unbounded.K s) (unbounded.S q) e h g f (near-K D s) (near-S D q)
near-pass (suc (suc (suc k))) D lo hi E F G H p q r s e f g h =
    linear3 D lo hi E F G H p q r s (unbounded.K q) (unbounded.S s) e f g h (near-K D q) (near-S D s)

-- ---- the block
near-self : (z : ℤ) → Near 1 0 0 z z
near-self = split _ λ _ _. simp linear (omega arith)

near-column : (x : ℕ → ℤ) (r c : ℕ) → Near 65536 (low r 1 0 0) (high r 1 0 0) (column exact x r c) (column unbounded x r c)
unfolding column
near-column x r c =
    near-pass r 1 0 0 (x c) (x (4 + c)) (x (8 + c)) (x (12 + c)) (x c) (x (4 + c)) (x (8 + c)) (x (12 + c))
    (near-self (x c)) (near-self (x (4 + c))) (near-self (x (8 + c))) (near-self (x (12 + c)))

abbrev pub low_at : ℕ → ℕ → ℕ
low_at r c = low c 65536 (low r 1 0 0) (high r 1 0 0)

abbrev pub high_at : ℕ → ℕ → ℕ
high_at r c = high c 65536 (low r 1 0 0) (high r 1 0 0)

pub near-passes : (x : ℕ → ℤ) (r c : ℕ)
    → Near 4294967296 (low_at r c) (high_at r c) (passes exact (λ z. z) x r c) (passes unbounded (λ z. z) x r c)
unfolding passes
near-passes x r c =
    near-pass c 65536 (low r 1 0 0) (high r 1 0 0)
    (column exact x r 0) (column exact x r 1) (column exact x r 2) (column exact x r 3)
    (column unbounded x r 0) (column unbounded x r 1) (column unbounded x r 2) (column unbounded x r 3)
    (near-column x r 0) (near-column x r 1) (near-column x r 2) (near-column x r 3)

-- below 9 * 2^32 and below 10 * 2^32, at each of the sixteen places
below : (r c : ℕ) → (low_at r c < 38654705664) × (high_at r c < 42949672960)
below zero zero = (lit< tt, lit< tt)
below zero (suc zero) = (lit< tt, lit< tt)
below zero (suc (suc zero)) = (lit< tt, lit< tt)
below zero (suc (suc (suc c))) = (lit< tt, lit< tt)
below (suc zero) zero = (lit< tt, lit< tt)
below (suc zero) (suc zero) = (lit< tt, lit< tt)
below (suc zero) (suc (suc zero)) = (lit< tt, lit< tt)
below (suc zero) (suc (suc (suc c))) = (lit< tt, lit< tt)
below (suc (suc zero)) zero = (lit< tt, lit< tt)
below (suc (suc zero)) (suc zero) = (lit< tt, lit< tt)
below (suc (suc zero)) (suc (suc zero)) = (lit< tt, lit< tt)
below (suc (suc zero)) (suc (suc (suc c))) = (lit< tt, lit< tt)
below (suc (suc (suc r))) zero = (lit< tt, lit< tt)
below (suc (suc (suc r))) (suc zero) = (lit< tt, lit< tt)
below (suc (suc (suc r))) (suc (suc zero)) = (lit< tt, lit< tt)
below (suc (suc (suc r))) (suc (suc (suc c))) = (lit< tt, lit< tt)

-- ---- the closing rounding
round : (lo hi : ℕ) → lo < 38654705664 → hi < 42949672960 → (F o q : ℤ) → Near 4294967296 lo hi F o → Floor 8 (o +ℤ pos 4) q
    → Near 34359738368 55834574847 55834574847 F q
round lo hi l h = split3 _ λ _ _ _ _ _ _. simp linear (omega arith)

pub near-residue : (x : ℕ → ℤ) (r c : ℕ) → Near 34359738368 55834574847 55834574847 (T x r c) (residue_plain x r c)
unfolding residue_plain T
near-residue x r c =
    round (low_at r c) (high_at r c) (below r c).0 (below r c).1 (passes exact (λ z. z) x r c) (passes unbounded (λ z. z) x r c)
    (shr_z (passes unbounded (λ z. z) x r c +ℤ pos 4) 8) (near-passes x r c) (floor 8 (passes unbounded (λ z. z) x r c +ℤ pos 4) (lit< tt))
