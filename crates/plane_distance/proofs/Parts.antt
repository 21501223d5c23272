-- Two parts of a plane are the whole; no sum of a plane passes 64 bits; and what the test of the lengths says. Assumes nothing.
use Prim.Native.Nat.{ℕ, ◌+◌, ◌*◌, ◌%◌, ◌≤◌, max, min}
use mathlib.Core.Bool.{true, false}
use mathlib.Core.List.{List}
use mathlib.Core.Path.{◌≡◌, sym, ap, ◌∙◌}
use native.Mathlib.Nat.{zero-add, mul-one}
use native.Mathlib.Omega.{arith}
use borrow.Author.Tests.{eq-eqb, ne_eqb, eqb-true, leb-true}
use lib.Dec.{eqb, leb}
use Rattle.lists.specs.Lists.{both, total}
use Rattle.lists.proofs.Tests.{left-holds, right-holds}
use Rattle.plane_distance.specs.Sums.{largest}
use Rattle.plane_distance.specs.Apart.{apart_at, square_at, same_at, distance_from, together, together_held, comparable}
use Rattle.plane_distance.specs.declared.Distance.{Distance}
use Rattle.lists.proofs.Total.{total-≤, total_ext, total-add}
use Rattle.plane_distance.proofs.Totals.{largest-ext, largest-add}
use Rattle.plane_distance.proofs.Pixels.{Bytes, same-≤, square-≤}

-- ---- the first m pixels, then n more
module _ (f : ℕ → ℕ) (m n : ℕ) where
  total-parts : total (m + n) (λ i. f (0 + i)) ≡ total m (λ i. f (0 + i)) + total n (λ i. f (m + i))
  total-parts =
      total-add m n (λ i. f (0 + i))
      ∙ ap (λ (s : ℕ). total m (λ i. f (0 + i)) + s) (total_ext n _ (λ i. f (m + i)) (λ i h. ap f (zero-add (m + i))))

  largest-parts : largest (m + n) (λ i. f (0 + i)) ≡ max (largest m (λ i. f (0 + i))) (largest n (λ i. f (m + i)))
  largest-parts =
      largest-add m n (λ i. f (0 + i))
      ∙ ap (λ (s : ℕ). max (largest m (λ i. f (0 + i))) s) (largest-ext n _ (λ i. f (m + i)) (λ i h. ap f (zero-add (m + i))))

module _ (a b : List ℕ) where
  pub parts : (m n : ℕ) → together (distance_from a b 0 m) (distance_from a b m n) ≡ distance_from a b 0 (m + n)
  unfolding distance_from
  parts m n =
      sym (rw (total-parts (square_at a b) m n, largest-parts (apart_at a b) m n, total-parts (same_at a b) m n))

  -- ---- bounds, over n pixels from `at` on
  pub equal-≤ : (at n : ℕ) → (distance_from a b at n).equal ≤ n
  unfolding distance_from
  equal-≤ at n = omega (arith, total-≤ 1 n (λ i. same_at a b (at + i)) (λ i h. same-≤ a b (at + i)), mul-one n)

  pub squares-≤ : Bytes a → Bytes b → (at n : ℕ) → (distance_from a b at n).squares ≤ n * 65025
  unfolding distance_from
  squares-≤ p q at n = total-≤ 65025 n (λ i. square_at a b (at + i)) (λ i h. square-≤ a b (at + i) p q)

-- ---- sums that fit 64 bits
pub together-fits : (x y : Distance) → x.squares + y.squares ≤ 18446744073709551615 → x.equal + y.equal ≤ 18446744073709551615 → together_held x y ≡ together x y
together-fits x y s e =
    let f : min (x.squares + y.squares) 18446744073709551615 ≡ x.squares + y.squares = omega (arith, s) in
    let g : min (x.equal + y.equal) 18446744073709551615 ≡ x.equal + y.equal = omega (arith, e) in
    rw (f, g)

-- ---- the lengths
pub record Comparable (m n : ℕ) : Type 0 where
  pub same : m ≡ n
  pub whole : m % 256 ≡ 0
  pub small : m ≤ 268435456

module _ (m n : ℕ) where
  pub comparable-says : comparable m n ≡ true → Comparable m n
  unfolding comparable
  comparable-says e =
      let rest = both (eqb (m % 256) 0) (leb m 268435456) in
      let e₁ = right-holds (eqb m n) rest e in
      record {
        same = eqb-true m n (left-holds (eqb m n) rest e);
        whole = eqb-true (m % 256) 0 (left-holds (eqb (m % 256) 0) (leb m 268435456) e₁);
        small = leb-true m 268435456 (right-holds (eqb (m % 256) 0) (leb m 268435456) e₁);
      }

  pub not_same : (m ≡ n → ⊥) → false ≡ comparable m n
  unfolding comparable
  not_same h = rw (ne_eqb m n h)

  pub not-whole : m ≡ n → (m % 256 ≡ 0 → ⊥) → false ≡ comparable m n
  unfolding comparable
  not-whole e h = rw (eq-eqb m n e, ne_eqb (m % 256) 0 h)

  pub by_size : m ≡ n → m % 256 ≡ 0 → leb m 268435456 ≡ comparable m n
  unfolding comparable
  by_size e h = rw (eq-eqb m n e, eq-eqb (m % 256) 0 h)
