-- The whole call: its refusals, in their order, and its answer.
--     sides_ok         every side is from 1 to 1,024
--     lengths_ok       two numbers a still; both slices have the pixels of all stills; three numbers a report
--     refusal         12 for more than 4,096 stills, then 7, then 1; 0 where none holds
use Rattle.std.specs.Prelude.{ℕ, zero, suc, ◌-◌, ◌*◌, ◌/◌, ◌%◌, ◌≤◌, Bool, true, ◌≡◌, List, eqb, leb, ltb, length, get_or}
use Rattle.lists.specs.Lists.{pick, both, ◌beside◌}
use Rattle.macroblock.specs.Reply.{done, wrong_length, outside_picture}
use Rattle.plane_distance.specs.Apart.{no_distance}
use Rattle.distance.specs.Stills.{start_of, report_of, reported, summed}

abbrev pub too_many : ℕ
too_many = 12

unfoldable pub side_ok : ℕ → Bool
side_ok side = both (leb 1 side) (leb side 1024)

-- the first n numbers
unfoldable pub sides_ok : List ℕ → ℕ → Bool
sides_ok sizes zero = true
sides_ok sizes (suc n) = both (sides_ok sizes n) (side_ok (get_or sizes n 0))

-- slices of so many pixels and of so many reported numbers
unfoldable pub lengths_ok : List ℕ → ℕ → ℕ → ℕ → Bool
lengths_ok sizes drawn measured reports =
    let n = length sizes / 2 in
    both (eqb (length sizes % 2) 0)
    (both (eqb drawn (start_of sizes n)) (both (eqb measured (start_of sizes n)) (eqb reports (3 * n))))

unfoldable pub refusal : List ℕ → ℕ → ℕ → ℕ → ℕ
refusal sizes drawn measured reports =
    pick (ltb 8192 (length sizes)) too_many
    (pick (sides_ok sizes (length sizes)) (pick (lengths_ok sizes drawn measured reports) done wrong_length) outside_picture)

-- what the call answers and leaves where its totals have three places: all reports and their totals, or nothing new and three zeros
abbrev pub answered : ℕ → List ℕ → List ℕ → List ℕ → List ℕ → ℕ × (List ℕ × List ℕ)
answered refused sizes drawn measured reports =
    let n = length sizes / 2 in
    pick (eqb refused done) (done beside reported sizes drawn measured n beside report_of (summed sizes drawn measured n))
    (refused beside reports beside report_of no_distance)

unfoldable pub distance_answer : List ℕ → List ℕ → List ℕ → List ℕ → List ℕ → ℕ × (List ℕ × List ℕ)
distance_answer sizes drawn measured reports totals =
    pick (eqb (length totals) 3) (answered (refusal sizes (length drawn) (length measured) (length reports)) sizes drawn measured reports)
    (wrong_length beside reports beside totals)

-- a call that nothing refuses
pub record Accepted (sizes : List ℕ) (drawn measured reports : ℕ) : Type 0 where
  pub few : length sizes ≤ 8192
  pub sides : sides_ok sizes (length sizes) ≡ true
  pub lengths : lengths_ok sizes drawn measured reports ≡ true

-- the plane of a still from `at` to `end`, in slices of so many pixels
pub record Plane (at end drawn measured : ℕ) : Type 0 where
  pub forward : at ≤ end
  pub in-drawn : end ≤ drawn
  pub in-measured : end ≤ measured
  pub whole : (end - at) % 256 ≡ 0
  pub small : end - at ≤ 268435456
