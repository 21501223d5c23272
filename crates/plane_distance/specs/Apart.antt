-- How far two planes are from each other, in whole numbers, pixel by pixel.
--     apart            the difference of two pixels, without its sign
--     apart_at          that of the pixels at place i; square_at, its square; same_at, 1 where it is 0
--     distance_from     over n places from `at` on: the sum of squares, the largest difference, the number of equal pixels
--     together         of two parts; together_held, where a sum that passes 64 bits is held at the largest number
--     plane_distance    of two luma planes of equally many macroblocks
use Rattle.std.specs.Prelude.{ℕ, ◌+◌, ◌*◌, ◌-◌, ◌%◌, max, min, Bool, List, eqb, leb, length, get_or, set}
use Rattle.lists.specs.Lists.{turns, pick, both, total}
use Rattle.plane_distance.specs.Sums.{largest}
use Rattle.plane_distance.specs.declared.Distance.{Distance}

-- `-` is 0 below 0, so that one of the two is 0
abbrev pub apart : ℕ → ℕ → ℕ
apart x y = (x - y) + (y - x)

module _ (a b : List ℕ) where
  unfoldable pub apart_at : ℕ → ℕ
  apart_at i = apart (get_or a i 0) (get_or b i 0)

  unfoldable pub square_at : ℕ → ℕ
  square_at i = apart_at i * apart_at i

  unfoldable pub same_at : ℕ → ℕ
  same_at i = pick (eqb (get_or a i 0) (get_or b i 0)) 1 0

  unfoldable pub distance_from : ℕ → ℕ → Distance
  distance_from at n =
      record {
        squares = total n λ i. square_at (at + i);
        largest = largest n λ i. apart_at (at + i);
        equal = total n λ i. same_at (at + i);
      }

-- two parts
abbrev pub together : Distance → Distance → Distance
together x y =
    record { squares = x.squares + y.squares; largest = max x.largest y.largest; equal = x.equal + y.equal }

abbrev pub together_held : Distance → Distance → Distance
together_held x y =
    record {
      squares = min (x.squares + y.squares) 18446744073709551615;
      largest = max x.largest y.largest;
      equal = min (x.equal + y.equal) 18446744073709551615;
    }

-- ---- 64 lanes: what a turn with the differences d makes of the largest so far, and of the numbers of equal pixels so far
unfoldable pub raised : List ℕ → List ℕ → List ℕ
raised d = turns 64 λ k m. set m k (max (get_or m k 0) (get_or d k 0))

unfoldable pub counted : List ℕ → List ℕ → List ℕ
counted d = turns 64 λ k n. set n k (get_or n k 0 + pick (eqb (get_or d k 0) 0) 1 0)

-- ---- planes of m and n bytes: as many, whole macroblocks of 256, and no more than 1,024 by 1,024 of them
unfoldable pub comparable : ℕ → ℕ → Bool
comparable m n = both (eqb m n) (both (eqb (m % 256) 0) (leb m 268435456))

abbrev pub no_distance : Distance
no_distance = record { squares = 0; largest = 0; equal = 0 }

unfoldable pub plane_distance : List ℕ → List ℕ → Distance
plane_distance a b = pick (comparable (length a) (length b)) (distance_from a b 0 (length a)) no_distance
