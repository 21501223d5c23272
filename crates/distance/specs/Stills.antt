-- A list of stills by their sizes: two numbers a still, its columns and rows in macroblocks. The luma planes of all of them stand one behind another.
--     pixels_of k       how many pixels still k has
--     start_of k        where its plane begins: after those of the stills before it
--     still_at k        its distance, pixel by pixel
--     reported n       three numbers for each of the first n: sum of squares, largest difference, equal pixels
--     summed n         the same over the first n together
use Rattle.std.specs.Prelude.{ℕ, ◌+◌, ◌*◌, List, [], ◌∷◌, get_or}
use borrow.Rule.Slice.PartMut.{put_mid}
use Rattle.lists.specs.Lists.{total, joined}
use Rattle.plane_distance.specs.Sums.{largest}
use Rattle.plane_distance.specs.Apart.{distance_from}
use Rattle.plane_distance.specs.declared.Distance.{Distance}

unfoldable pub report_of : Distance → List ℕ
report_of d = d.squares ∷ d.largest ∷ d.equal ∷ []

-- report k written into its place
unfoldable pub put_report : ℕ → Distance → List ℕ → List ℕ
put_report k d reports = put_mid (3 * k) 3 reports (report_of d)

module _ (sizes : List ℕ) where
  unfoldable pub pixels_of : ℕ → ℕ
  pixels_of k = 256 * (get_or sizes (2 * k) 0 * get_or sizes (2 * k + 1) 0)

  unfoldable pub start_of : ℕ → ℕ
  start_of k = total k pixels_of

  module _ (drawn measured : List ℕ) where
    unfoldable pub still_at : ℕ → Distance
    still_at k = distance_from drawn measured (start_of k) (pixels_of k)

    unfoldable pub reported : ℕ → List ℕ
    reported n = joined n λ k. report_of (still_at k)

    unfoldable pub summed : ℕ → Distance
    summed n =
        record {
          squares = total n λ k. (still_at k).squares;
          largest = largest n λ k. (still_at k).largest;
          equal = total n λ k. (still_at k).equal;
        }
