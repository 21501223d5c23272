-- Two pixels: they are equal where they are not apart, and bytes are at most 255 apart.
--     apart_none                                no difference, as a test
--     square-none                               no square: the pixels are equal
--     apart-equal, square-equal, same-equal     equal pixels: no difference, no square, and they count
--     apart-≤, square-≤, same-≤                 how large each may be
-- Assumes nothing.
use Prim.Native.Nat.{ℕ, zero, suc, ◌*◌, ◌≤◌}
use mathlib.Core.Bool.{Bool, true, false}
use mathlib.Core.List.{List}
use mathlib.Core.Path.{◌≡◌, refl, sym, ap}
use native.Mathlib.Nat.{mul-le-mul, suc-mul}
use native.Mathlib.Omega.{arith}
use borrow.Author.Tests.{eq-eqb}
use lib.Dec.{eqb, eqb→eq}
use lib.ListN.{get_or}
use Rattle.lists.specs.Lists.{pick}
use Rattle.lists.proofs.Tests.{same_test, true-T}
use Rattle.plane_distance.specs.Apart.{apart, apart_at, square_at, same_at}

pub apart_none : (x y : ℕ) → eqb (apart x y) 0 ≡ eqb x y
apart_none x y =
    same_test (eqb (apart x y) 0) (eqb x y)
    (λ t. let e : apart x y ≡ 0 = eqb→eq _ _ t in let f : x ≡ y = omega arith in true-T (sym (eq-eqb _ _ f)))
    (λ t. let e : x ≡ y = eqb→eq _ _ t in let f : apart x y ≡ 0 = omega arith in true-T (sym (eq-eqb _ _ f)))

one_at_most : (b : Bool) → pick b 1 0 ≤ 1
one_at_most true = omega arith
one_at_most false = omega arith

-- ---- at a place: no square, no difference and equal pixels are one thing
square-zero : (n : ℕ) → n * n ≡ 0 → n ≡ 0
square-zero zero e = refl
square-zero (suc n) e = absurd (omega (arith, suc-mul n (suc n), e))

module _ (a b : List ℕ) (i : ℕ) where
  pub square-none : square_at a b i ≡ 0 → get_or a i 0 ≡ get_or b i 0
  unfolding square_at apart_at
  square-none e = omega (arith, square-zero (apart_at a b i) e)

  module _ (e : get_or a i 0 ≡ get_or b i 0) where
    pub apart-equal : apart_at a b i ≡ 0
    unfolding apart_at
    apart-equal = omega arith

    pub square-equal : square_at a b i ≡ 0
    unfolding square_at
    square-equal = rw apart-equal

    pub same-equal : same_at a b i ≡ 1
    unfolding same_at
    same-equal = rw (eq-eqb (get_or a i 0) (get_or b i 0) e)

-- every element is a byte
abbrev pub Bytes : List ℕ → Type 0
Bytes l = (i : ℕ) → get_or l i 0 ≤ 255

module _ (a b : List ℕ) (i : ℕ) where
  pub same-apart : pick (eqb (apart_at a b i) 0) 1 0 ≡ same_at a b i
  unfolding apart_at same_at
  same-apart = ap (λ (t : Bool). pick t 1 0) (apart_none (get_or a i 0) (get_or b i 0))

  pub same-≤ : same_at a b i ≤ 1
  unfolding same_at
  same-≤ = one_at_most (eqb (get_or a i 0) (get_or b i 0))

  module _ (p : Bytes a) (q : Bytes b) where
    pub apart-≤ : apart_at a b i ≤ 255
    unfolding apart_at
    apart-≤ = omega (arith, p i, q i)

    pub square-≤ : square_at a b i ≤ 65025
    unfolding square_at
    square-≤ = mul-le-mul apart-≤ apart-≤
