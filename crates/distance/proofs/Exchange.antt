-- Exchanging drawn and measured changes nothing: pixel by pixel, still by still, and in the tests. Assumes nothing.
use Prim.Native.Nat.{ℕ, zero, suc, ◌+◌, ◌*◌, ◌/◌}
use mathlib.Core.Bool.{Bool, true, false}
use mathlib.Core.List.{List}
use mathlib.Core.Path.{◌≡◌, refl, sym, ap}
use native.Mathlib.Omega.{arith}
use borrow.Author.Tests.{eq-eqb}
use lib.Dec.{eqb, eqb→eq}
use lib.ListN.{length, get_or}
use Rattle.lists.specs.Lists.{pick, both, joined}
use Rattle.lists.proofs.Tests.{same_test, true-T}
use Rattle.plane_distance.specs.Apart.{apart_at, square_at, same_at, distance_from}
use Rattle.plane_distance.specs.declared.Distance.{Distance}
use Rattle.lists.proofs.Total.{total_ext}
use Rattle.plane_distance.proofs.Totals.{largest-ext}
use Rattle.distance.specs.Stills.{pixels_of, start_of, report_of, still_at, reported, summed}
use Rattle.distance.specs.Answer.{lengths_ok, refusal, distance_answer}

eqb_swap : (x y : ℕ) → eqb x y ≡ eqb y x
eqb_swap x y =
    same_test (eqb x y) (eqb y x) (λ t. let e : x ≡ y = eqb→eq _ _ t in true-T (sym (eq-eqb y x (sym e))))
    (λ t. let e : y ≡ x = eqb→eq _ _ t in true-T (sym (eq-eqb x y (sym e))))

both-swap : (a b c : Bool) → both a (both b c) ≡ both b (both a c)
both-swap true b c = refl
both-swap false true c = refl
both-swap false false c = refl

-- ---- pixels
module _ (a b : List ℕ) where
  apart-swap : (i : ℕ) → apart_at a b i ≡ apart_at b a i
  unfolding apart_at
  apart-swap i = omega arith

  square-swap : (i : ℕ) → square_at a b i ≡ square_at b a i
  unfolding square_at
  square-swap i = rw (apart-swap i)

  same-swap : (i : ℕ) → same_at a b i ≡ same_at b a i
  unfolding same_at
  same-swap i = ap (λ (t : Bool). pick t 1 0) (eqb_swap (get_or a i 0) (get_or b i 0))

  from-swap : (at n : ℕ) → distance_from a b at n ≡ distance_from b a at n
  unfolding distance_from
  from-swap at n =
      rw (
        total_ext n (λ i. square_at a b (at + i)) (λ i. square_at b a (at + i)) (λ i h. square-swap (at + i)),
        largest-ext n (λ i. apart_at a b (at + i)) (λ i. apart_at b a (at + i)) (λ i h. apart-swap (at + i)),
        total_ext n (λ i. same_at a b (at + i)) (λ i. same_at b a (at + i)) (λ i h. same-swap (at + i)),
      )

-- ---- stills
joined-ext : (n : ℕ) (f g : ℕ → List ℕ) → ((i : ℕ) → f i ≡ g i) → joined n f ≡ joined n g
unfolding joined
joined-ext zero f g h = refl
joined-ext (suc n) f g h = rw (joined-ext n f g h, h n)

module _ (sizes a b : List ℕ) where
  still-swap : (k : ℕ) → still_at sizes a b k ≡ still_at sizes b a k
  unfolding still_at
  still-swap k = from-swap a b (start_of sizes k) (pixels_of sizes k)

  reported-swap : (n : ℕ) → reported sizes a b n ≡ reported sizes b a n
  unfolding reported
  reported-swap n = joined-ext n _ _ (λ k. ap report_of (still-swap k))

  summed-swap : (n : ℕ) → summed sizes a b n ≡ summed sizes b a n
  unfolding summed
  summed-swap n =
      rw (
        total_ext n (λ k. (still_at sizes a b k).squares) (λ k. (still_at sizes b a k).squares) (λ k h. ap (λ (d : Distance). d.squares) (still-swap k)),
        largest-ext n (λ k. (still_at sizes a b k).largest) (λ k. (still_at sizes b a k).largest) (λ k h. ap (λ (d : Distance). d.largest) (still-swap k)),
        total_ext n (λ k. (still_at sizes a b k).equal) (λ k. (still_at sizes b a k).equal) (λ k h. ap (λ (d : Distance). d.equal) (still-swap k)),
      )

-- ---- the whole call
refusal-swap : (sizes : List ℕ) (m n r : ℕ) → refusal sizes m n r ≡ refusal sizes n m r
unfolding refusal lengths_ok
refusal-swap sizes m n r =
    let h = length sizes / 2 in
    rw (both-swap (eqb m (start_of sizes h)) (eqb n (start_of sizes h)) (eqb r (3 * h)))

pub answer-swap : (sizes drawn measured reports totals : List ℕ) → distance_answer sizes drawn measured reports totals ≡ distance_answer sizes measured drawn reports totals
unfolding distance_answer
answer-swap sizes drawn measured reports totals =
    rw (
      refusal-swap sizes (length drawn) (length measured) (length reports),
      reported-swap sizes drawn measured (length sizes / 2),
      summed-swap sizes drawn measured (length sizes / 2),
    )
