-- One pass of the inverse DCT on four entries of 16 bits: nothing wraps (`pass_same`), every number on the way, the products too, is one of
-- 32 bits (`inner`), and a result is at most 252167 / 65536 times the largest entry, and 2 (`pass-small`). The same for columns and rows.
-- Assumes nothing.
use mathlib.Core.Path.{◌≡◌, ap, ap₂, ◌∙◌}
use Prim.Native.Nat.{ℕ, zero, suc, ◌+◌, ◌*◌, ◌≤◌}
use native.Mathlib.Omega.{arith}
use lib.Dec.{lit<, lit≤}
use lib.IntN.{ℤ, pos, ◌+ℤ◌, ◌-ℤ◌, ◌*ℤ◌}
use lib.Signed.{shr_z}
use Rattle.whole.specs.Whole.{wrap}
use Rattle.whole.proofs.Linear.{split, split2, split4, linear}
use Rattle.whole.proofs.Floor.{Floor, floor}
use Rattle.whole.proofs.Range.{Small, Signed, small_signed, small-wider, small-add, small-sub}
use Rattle.whole.proofs.Modulo.{wrap-is}
use Rattle.rfc6386.specs.Dct.{by_sin, by_cos, pass, wrapped, unbounded}

-- ---- S and K
pub S-floor : (x : ℤ) → Floor 65536 (x *ℤ pos 35468) (unbounded.S x)
S-floor x = floor 65536 (x *ℤ pos 35468) (lit< tt)

pub K-floor : (x : ℤ) → Floor 65536 (x *ℤ pos 85627) (unbounded.K x)
K-floor x = at x (shr_z (x *ℤ pos 20091) 65536) (floor 65536 (x *ℤ pos 20091) (lit< tt))
  where
    at : (x q : ℤ) → Floor 65536 (x *ℤ pos 20091) q → Floor 65536 (x *ℤ pos 85627) (x +ℤ q)
    at = split2 _ λ _ _ _ _. simp linear (omega arith)

S-small : (x : ℤ) → Small 32768 x → Small 32768 (unbounded.S x)
S-small x h = at x (unbounded.S x) h (S-floor x)
  where
    at : (x q : ℤ) → Small 32768 x → Floor 65536 (x *ℤ pos 35468) q → Small 32768 q
    at = split2 _ λ _ _ _ _. simp linear (omega arith)

K-small : (x : ℤ) → Small 32768 x → Small 65536 (unbounded.K x)
K-small x h = at x (unbounded.K x) h (K-floor x)
  where
    at : (x q : ℤ) → Small 32768 x → Floor 65536 (x *ℤ pos 85627) q → Small 65536 q
    at = split2 _ λ _ _ _ _. simp linear (omega arith)

-- what lies this far below 2^31 does not wrap
pub still : (z : ℤ) → Small 2000000000 z → wrap z ≡ z
still z h = wrap-is z (small_signed 2000000000 2147483648 (lit< tt) z h)

S-same : (x : ℤ) → Small 32768 x → by_sin x ≡ unbounded.S x
unfolding by_sin
S-same x h = ap (λ (z : ℤ). shr_z z 65536) (still (x *ℤ pos 35468) (at x h))
  where
    at : (x : ℤ) → Small 32768 x → Small 2000000000 (x *ℤ pos 35468)
    at = split _ λ _ _. simp linear (omega arith)

K-same : (x : ℤ) → Small 32768 x → by_cos x ≡ unbounded.K x
unfolding by_cos
K-same x h =
    ap (λ (z : ℤ). wrap (x +ℤ shr_z z 65536)) (still (x *ℤ pos 20091) (at x h))
    ∙ still (unbounded.K x) (small-wider 65536 2000000000 (lit≤ tt) (unbounded.K x) (K-small x h))
  where
    at : (x : ℤ) → Small 32768 x → Small 2000000000 (x *ℤ pos 20091)
    at = split _ λ _ _. simp linear (omega arith)

-- ---- nothing wraps
wider : (z : ℤ) → Small 200000 z → Small 2000000000 z
wider = small-wider 200000 2000000000 (lit≤ tt)

-- two sums and their sum or difference, each wrapped
add_same : (x y : ℤ) → Small 200000 x → Small 200000 y → wrap (wrap x +ℤ wrap y) ≡ x +ℤ y
add_same x y h k =
    ap₂ (λ (u v : ℤ). wrap (u +ℤ v)) (still x (wider x h)) (still y (wider y k))
    ∙ still (x +ℤ y) (small-add 200000 200000 2000000000 (lit≤ tt) x y h k)

sub_same : (x y : ℤ) → Small 200000 x → Small 200000 y → wrap (wrap x -ℤ wrap y) ≡ x -ℤ y
sub_same x y h k =
    ap₂ (λ (u v : ℤ). wrap (u -ℤ v)) (still x (wider x h)) (still y (wider y k))
    ∙ still (x -ℤ y) (small-sub 200000 200000 2000000000 (lit≤ tt) x y h k)

pub pass_same : (k : ℕ) (p q r s : ℤ) → Small 32768 p → Small 32768 q → Small 32768 r → Small 32768 s
    → pass wrapped k p q r s ≡ pass unbounded k p q r s
unfolding pass
pass_same zero p q r s hp hq hr hs =
    ap₂ (λ (u v : ℤ). wrap (wrap (p +ℤ r) +ℤ wrap (u +ℤ v))) (K-same q hq) (S-same s hs)
    ∙ add_same (p +ℤ r) (unbounded.K q +ℤ unbounded.S s) (small-add 32768 32768 200000 (lit≤ tt) p r hp hr)
    (small-add 65536 32768 200000 (lit≤ tt) (unbounded.K q) (unbounded.S s) (K-small q hq) (S-small s hs))
pass_same (suc zero) p q r s hp hq hr hs =
    ap₂ (λ (u v : ℤ). wrap (wrap (p -ℤ r) +ℤ wrap (u -ℤ v))) (S-same q hq) (K-same s hs)
    ∙ add_same (p -ℤ r) (unbounded.S q -ℤ unbounded.K s) (small-sub 32768 32768 200000 (lit≤ tt) p r hp hr)
    (small-sub 32768 65536 200000 (lit≤ tt) (unbounded.S q) (unbounded.K s) (S-small q hq) (K-small s hs))
pass_same (suc (suc zero)) p q r s hp hq hr hs =
    ap₂ (λ (u v : ℤ). wrap (wrap (p -ℤ r) -ℤ wrap (u -ℤ v))) (S-same q hq) (K-same s hs)
    ∙ sub_same (p -ℤ r) (unbounded.S q -ℤ unbounded.K s) (small-sub 32768 32768 200000 (lit≤ tt) p r hp hr)
    (small-sub 32768 65536 200000 (lit≤ tt) (unbounded.S q) (unbounded.K s) (S-small q hq) (K-small s hs))
pass_same (suc (suc (suc k))) p q r s hp hq hr hs =
    ap₂ (λ (u v : ℤ). wrap (wrap (p +ℤ r) -ℤ wrap (u +ℤ v))) (K-same q hq) (S-same s hs)
    ∙ sub_same (p +ℤ r) (unbounded.K q +ℤ unbounded.S s) (small-add 32768 32768 200000 (lit≤ tt) p r hp hr)
    (small-add 65536 32768 200000 (lit≤ tt) (unbounded.K q) (unbounded.S s) (K-small q hq) (S-small s hs))

-- ---- every number on the way: the products, S and K, the four sums and the four results
abbrev pub Word : ℤ → Type 0
Word z = Signed 2147483648 z

-- of the entries p, q, r, s, where a and b are S of q and s, and e and f are K of them
abbrev Inner : (p q r s a b e f : ℤ) → Type 0
Inner p q r s a b e f =
    (Word (q *ℤ pos 35468) × Word (s *ℤ pos 35468) × Word (q *ℤ pos 20091) × Word (s *ℤ pos 20091))
    × (Word a × Word b × Word e × Word f)
    × (Word (p +ℤ r) × Word (p -ℤ r) × Word (a -ℤ f) × Word (e +ℤ b))
    × (Word (p +ℤ r +ℤ (e +ℤ b)) × Word (p -ℤ r +ℤ (a -ℤ f)) × Word (p -ℤ r -ℤ (a -ℤ f)) × Word (p +ℤ r -ℤ (e +ℤ b)))

abbrev pub Words : (p q r s : ℤ) → Type 0
Words p q r s = Inner p q r s (unbounded.S q) (unbounded.S s) (unbounded.K q) (unbounded.K s)

pub inner : (p q r s : ℤ) → Small 32768 p → Small 32768 q → Small 32768 r → Small 32768 s → Words p q r s
inner p q r s hp hq hr hs =
    at p q r s (unbounded.S q) (unbounded.S s) (unbounded.K q) (unbounded.K s) hp hq hr hs (S-floor q) (S-floor s) (K-floor q) (K-floor s)
  where
    at : (p q r s a b e f : ℤ) → Small 32768 p → Small 32768 q → Small 32768 r → Small 32768 s
        → Floor 65536 (q *ℤ pos 35468) a → Floor 65536 (s *ℤ pos 35468) b → Floor 65536 (q *ℤ pos 85627) e → Floor 65536 (s *ℤ pos 85627) f
        → Inner p q r s a b e f
    at = split4 _ λ _ _ _ _ _ _ _ _. split4 _ λ _ _ _ _ _ _ _ _. simp linear (omega arith)

-- ---- how far a result grows; u and v are the two floors of it: of 85627 times one odd entry, and of 35468 times the other
abbrev Grows : (ℤ → ℤ → ℤ → ℤ → ℤ) → Type 0
Grows f =
    (B C : ℕ) → 252167 * B + 131072 ≤ 65536 * C → (p q r s u v : ℤ) → Small B p → Small B q → Small B r → Small B s
    → Floor 65536 (q *ℤ pos 85627) u → Floor 65536 (s *ℤ pos 35468) v → Small C (f p r u v)

grows0 : Grows (λ p r u v. p +ℤ r +ℤ (u +ℤ v))
grows0 B C l = split4 _ λ _ _ _ _ _ _ _ _. split2 _ λ _ _ _ _. simp linear (omega arith)

grows1 : Grows (λ p r u v. p -ℤ r +ℤ (v -ℤ u))
grows1 B C l = split4 _ λ _ _ _ _ _ _ _ _. split2 _ λ _ _ _ _. simp linear (omega arith)

grows2 : Grows (λ p r u v. p -ℤ r -ℤ (v -ℤ u))
grows2 B C l = split4 _ λ _ _ _ _ _ _ _ _. split2 _ λ _ _ _ _. simp linear (omega arith)

grows3 : Grows (λ p r u v. p +ℤ r -ℤ (u +ℤ v))
grows3 B C l = split4 _ λ _ _ _ _ _ _ _ _. split2 _ λ _ _ _ _. simp linear (omega arith)

pub pass-small : (k B C : ℕ) → 252167 * B + 131072 ≤ 65536 * C → (p q r s : ℤ) → Small B p → Small B q → Small B r → Small B s
    → Small C (pass unbounded k p q r s)
unfolding pass
pass-small zero B C l p q r s hp hq hr hs = grows0 B C l p q r s (unbounded.K q) (unbounded.S s) hp hq hr hs (K-floor q) (S-floor s)
pass-small (suc zero) B C l p q r s hp hq hr hs = grows1 B C l p s r q (unbounded.K s) (unbounded.S q) hp hs hr hq (K-floor s) (S-floor q)
pass-small (suc (suc zero)) B C l p q r s hp hq hr hs = grows2 B C l p s r q (unbounded.K s) (unbounded.S q) hp hs hr hq (K-floor s) (S-floor q)
pass-small (suc (suc (suc k))) B C l p q r s hp hq hr hs = grows3 B C l p q r s (unbounded.K q) (unbounded.S s) hp hq hr hs (K-floor q) (S-floor s)
