-- A still is the distance of its own part of both planes. Assumes nothing.
use Prim.Native.Nat.{ℕ, ◌+◌, ◌-◌, ◌%◌, ◌<◌, ◌≤◌}
use mathlib.Core.Bool.{true}
use mathlib.Core.List.{List}
use mathlib.Core.Path.{◌≡◌, refl}
use native.Mathlib.Nat.{zero-add}
use native.Mathlib.Omega.{arith}
use borrow.Author.Tests.{eq-eqb, le-leb}
use lib.ListN.{length, get_or, take, drop, length-drop}
use lib.Seq.{length-take-le, get_or-take, get_or-drop}
use Rattle.plane_distance.specs.Apart.{apart_at, square_at, same_at, distance_from, comparable, plane_distance}
use Rattle.plane_distance.specs.declared.Distance.{Distance}
use Rattle.lists.proofs.Total.{total_ext}
use Rattle.plane_distance.proofs.Totals.{largest-ext}
use Rattle.distance.specs.Stills.{pixels_of, start_of, still_at}

module _ (at n : ℕ) (l : List ℕ) (h : at + n ≤ length l) where
  part_length : length (take n (drop at l)) ≡ n
  part_length = length-take-le n (drop at l) (rw length-drop (omega (arith, h)))

  part_at : (i : ℕ) → i < n → get_or (take n (drop at l)) (0 + i) 0 ≡ get_or l (at + i) 0
  part_at i q = rw (zero-add, get_or-take, get_or-drop)

module _ (a b : List ℕ) (at n : ℕ) (p : at + n ≤ length a) (q : at + n ≤ length b) where
  abbrev pa : List ℕ
  pa = take n (drop at a)

  abbrev pb : List ℕ
  pb = take n (drop at b)

  apart-part : (i : ℕ) → i < n → apart_at pa pb (0 + i) ≡ apart_at a b (at + i)
  unfolding apart_at
  apart-part i h = rw (part_at at n a p i h, part_at at n b q i h)

  square-part : (i : ℕ) → i < n → square_at pa pb (0 + i) ≡ square_at a b (at + i)
  unfolding square_at
  square-part i h = rw (apart-part i h)

  same-part : (i : ℕ) → i < n → same_at pa pb (0 + i) ≡ same_at a b (at + i)
  unfolding same_at
  same-part i h = rw (part_at at n a p i h, part_at at n b q i h)

  from-part : distance_from pa pb 0 n ≡ distance_from a b at n
  unfolding distance_from
  from-part =
      rw (
        total_ext n (λ i. square_at pa pb (0 + i)) (λ i. square_at a b (at + i)) square-part,
        largest-ext n (λ i. apart_at pa pb (0 + i)) (λ i. apart_at a b (at + i)) apart-part,
        total_ext n (λ i. same_at pa pb (0 + i)) (λ i. same_at a b (at + i)) same-part,
      )

  fits : n % 256 ≡ 0 → n ≤ 268435456 → comparable n n ≡ true
  unfolding comparable
  fits e s = rw (eq-eqb n n refl, eq-eqb (n % 256) 0 e, le-leb n 268435456 s)

  pub part-distance : n % 256 ≡ 0 → n ≤ 268435456 → plane_distance pa pb ≡ distance_from a b at n
  unfolding plane_distance
  part-distance e s = rw (part_length at n a p, part_length at n b q, fits e s) from-part

-- the still from `at` to `end` is still k
pub still-is : (sizes drawn measured : List ℕ) (k at n : ℕ) (d : Distance) → at ≡ start_of sizes k → n ≡ pixels_of sizes k
    → d ≡ distance_from drawn measured at (at + n - at) → d ≡ still_at sizes drawn measured k
unfolding still_at
still-is sizes drawn measured k at n d e h q = let g : at + n - at ≡ n = omega arith in rw (← e, ← h) (rw g at q)
