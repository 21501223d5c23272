-- How far the numbers grow: 65,025 is 255 * 255, 268,435,456 the pixels of 1,024 by 1,024 macroblocks, 17,455,015,526,400 their product.
--     still-squares-≤, still-largest-≤, still-equal-≤      one still
--     sum-squares-≤, sum-largest-≤, sum-equal-≤            the first n
-- Assumes nothing.
use Prim.Native.Nat.{ℕ, ◌+◌, ◌*◌, ◌/◌, ◌<◌, ◌≤◌}
use mathlib.Core.Bool.{true}
use mathlib.Core.List.{List}
use mathlib.Core.Path.{◌≡◌}
use native.Mathlib.Omega.{arith}
use lib.ListN.{length}
use Rattle.plane_distance.specs.Apart.{apart_at, distance_from}
use Rattle.lists.proofs.Total.{total-≤}
use Rattle.plane_distance.proofs.Totals.{largest-≤}
use Rattle.plane_distance.proofs.Pixels.{Bytes, apart-≤}
use Rattle.plane_distance.proofs.Parts.{equal-≤, squares-≤}
use Rattle.distance.specs.Stills.{pixels_of, start_of, still_at, summed}
use Rattle.distance.specs.Answer.{sides_ok}
use Rattle.distance.proofs.Sizes.{pixels-≤}

module _ (sizes drawn measured : List ℕ) (e : sides_ok sizes (length sizes) ≡ true) where
  pub still-equal-≤ : (k : ℕ) → 2 * k + 1 < length sizes → (still_at sizes drawn measured k).equal ≤ 268435456
  unfolding still_at
  still-equal-≤ k h = omega (arith, equal-≤ drawn measured (start_of sizes k) (pixels_of sizes k), pixels-≤ sizes e k h)

  pub sum-equal-≤ : (n : ℕ) → n ≤ length sizes / 2 → (summed sizes drawn measured n).equal ≤ n * 268435456
  unfolding summed
  sum-equal-≤ n h = total-≤ 268435456 n (λ k. (still_at sizes drawn measured k).equal) (λ k l. still-equal-≤ k (omega arith))

  module _ (p : Bytes drawn) (q : Bytes measured) where
    pub still-squares-≤ : (k : ℕ) → 2 * k + 1 < length sizes → (still_at sizes drawn measured k).squares ≤ 17455015526400
    unfolding still_at
    still-squares-≤ k h = omega (arith, squares-≤ drawn measured p q (start_of sizes k) (pixels_of sizes k), pixels-≤ sizes e k h)

    pub sum-squares-≤ : (n : ℕ) → n ≤ length sizes / 2 → (summed sizes drawn measured n).squares ≤ n * 17455015526400
    unfolding summed
    sum-squares-≤ n h = total-≤ 17455015526400 n (λ k. (still_at sizes drawn measured k).squares) (λ k l. still-squares-≤ k (omega arith))

    pub still-largest-≤ : (k : ℕ) → (still_at sizes drawn measured k).largest ≤ 255
    unfolding still_at distance_from
    still-largest-≤ k =
        largest-≤ 255 (pixels_of sizes k) (λ i. apart_at drawn measured (start_of sizes k + i)) (λ i h. apart-≤ drawn measured (start_of sizes k + i) p q)

    pub sum-largest-≤ : (n : ℕ) → (summed sizes drawn measured n).largest ≤ 255
    unfolding summed
    sum-largest-≤ n = largest-≤ 255 n (λ k. (still_at sizes drawn measured k).largest) (λ k h. still-largest-≤ k)
