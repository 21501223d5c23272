-- What the call tells of its stills. Each theorem speaks of the reply r, of the reports and of the totals as `distance` leaves them: `Answered` is its promise.
--     by-pixel                            a report, by the pixels of its still
--     totals-of                           the totals are the reports' sums and their largest
--     totals-fit, totals-64-bits          no total passes 64 bits: at most 71,495,743,596,134,400 for 4,096 stills of 1,024 by 1,024 macroblocks, 255, and 1,099,511,627,776
--     zero-equal, equal-zero              a still's distance is 0 exactly where all its pixels are equal, and then each of them counts as equal
--     list-zero-equal, list-equal-zero    the same over the list
--     exchanged                           exchanging drawn and measured changes nothing
--     no-stills                           an empty list gives zeros
--     refused-keeps                       a refusal keeps the reports, and its totals are zeros
-- Assumes nothing.
use Prim.Native.Nat.{ℕ, zero, suc, ◌+◌, ◌*◌, ◌/◌, ◌<◌, ◌≤◌}
use mathlib.Core.Bool.{Bool, true, false}
use mathlib.Core.List.{List, [], ◌∷◌, ◌++◌}
use mathlib.Core.Logic.{⊎_elim}
use mathlib.Core.Path.{◌≡◌, refl, sym, ap, ◌∙◌}
use native.Mathlib.Nat.{eq-or-lt_of_le, le_of_suc-le-suc, mul-one}
use native.Mathlib.Omega.{arith}
use borrow.Author.Tests.{eq-eqb, eqb-true, eqb-false}
use lib.Dec.{eqb}
use lib.ListN.{length, get_or, get_or-append}
use lib.Seq.{get_or-append-add}
use Rattle.lists.specs.Lists.{pick, total, ◌beside◌, joined}
use Rattle.macroblock.specs.Reply.{done, wrong_length}
use Rattle.plane_distance.specs.Sums.{largest}
use Rattle.plane_distance.specs.Apart.{apart_at, square_at, same_at, distance_from, no_distance}
use Rattle.plane_distance.specs.declared.Distance.{Distance}
use Rattle.lists.proofs.Total.{total_ext}
use Rattle.plane_distance.proofs.Totals.{largest-ext, total-at, largest-≤, total-all}
use Rattle.plane_distance.proofs.Pixels.{Bytes, square-none, apart-equal, square-equal, same-equal}
use Rattle.distance.specs.Stills.{pixels_of, start_of, report_of, still_at, reported, summed}
use Rattle.distance.specs.Answer.{sides_ok, lengths_ok, refusal, distance_answer, Accepted}
use Rattle.distance.proofs.Sizes.{accepted, lengths-say}
use Rattle.distance.proofs.Reports.{joined_length}
use Rattle.distance.proofs.Bounds.{sum-squares-≤, sum-largest-≤, sum-equal-≤}
use Rattle.distance.proofs.Exchange.{answer-swap}

-- number j of report k
joined_at : (f : ℕ → Distance) (n k j : ℕ) → k < n → j < 3 → get_or (joined n (λ i. report_of (f i))) (3 * k + j) 0 ≡ get_or (report_of (f k)) j 0
unfolding joined
joined_at f zero k j h l = absurd (omega (arith, h))
joined_at f (suc n) k j h l =
    let front = joined n (λ i. report_of (f i)) in
    let e : length front ≡ 3 * n = joined_length f n in
    ⊎_elim
    (λ q.
    rw q
    (ap (λ (m : ℕ). get_or (front ++ report_of (f n)) (m + j) 0) (sym e) ∙ get_or-append-add front (report_of (f n)) j 0))
    (λ p. get_or-append front (report_of (f n)) 0 (3 * k + j) (omega (arith, e)) ∙ joined_at f n k j p l)
    (eq-or-lt_of_le (le_of_suc-le-suc h))

-- what a call answers and leaves
abbrev pub Answered : (sizes drawn measured reports₀ totals₀ : List ℕ) (r : ℕ) (reports totals : List ℕ) → Type 0
Answered sizes drawn measured reports₀ totals₀ r reports totals = (r beside reports beside totals) ≡ distance_answer sizes drawn measured reports₀ totals₀

-- the three numbers of report k, and the three totals
abbrev pub squares_in : List ℕ → ℕ → ℕ
squares_in l k = get_or l (3 * k + 0) 0

abbrev pub largest_in : List ℕ → ℕ → ℕ
largest_in l k = get_or l (3 * k + 1) 0

abbrev pub equal_in : List ℕ → ℕ → ℕ
equal_in l k = get_or l (3 * k + 2) 0

-- ---- the two ways out
pub record Told (sizes drawn measured reports₀ totals₀ : List ℕ) (r : ℕ) (reports totals : List ℕ) : Type 0 where
  pub accepts : Accepted sizes (length drawn) (length measured) (length reports₀)
  pub each : reports ≡ reported sizes drawn measured (length sizes / 2)
  pub all : totals ≡ report_of (summed sizes drawn measured (length sizes / 2))

pub record Kept (reports₀ totals₀ : List ℕ) (r : ℕ) (reports totals : List ℕ) : Type 0 where
  pub reports-kept : reports ≡ reports₀
  pub totals-zero : length totals₀ ≡ 3 → totals ≡ 0 ∷ 0 ∷ 0 ∷ []

triple : {r s : ℕ} {a b c d : List ℕ} → (r beside a beside b) ≡ (s beside c beside d) → (r ≡ s) × (a ≡ c) × (b ≡ d)
triple e = (
  ap (λ (w : ℕ × (List ℕ × List ℕ)). w.0) e,
  ap (λ (w : ℕ × (List ℕ × List ℕ)). w.1.0) e,
  ap (λ (w : ℕ × (List ℕ × List ℕ)). w.1.1) e,
)

module _ (sizes drawn measured reports₀ totals₀ : List ℕ) (r : ℕ) (reports totals : List ℕ) where
  abbrev said : ℕ
  said = refusal sizes (length drawn) (length measured) (length reports₀)

  told-by : (a b : Bool) → eqb (length totals₀) 3 ≡ a → eqb said done ≡ b → r ≡ done
      → (r beside reports beside totals) ≡ pick a (pick b (done beside reported sizes drawn measured (length sizes / 2) beside report_of (summed sizes drawn measured (length sizes / 2)))
      (said beside reports₀ beside report_of no_distance)) (wrong_length beside reports₀ beside totals₀)
      → Told sizes drawn measured reports₀ totals₀ r reports totals
  told-by false b p q z e = let t = triple e in let o : ◌≡◌ {A = ℕ} 0 1 = sym z ∙ t.0 in absurd (omega (arith, o))
  told-by true false p q z e =
      let t = triple e in
      absurd (eqb-false said done q (sym t.0 ∙ z))
  told-by true true p q z e =
      let t = triple e in
      record { accepts = accepted sizes (length drawn) (length measured) (length reports₀) (eqb-true said done q); each = t.1; all = t.2 }

  kept_by : (a b : Bool) → eqb (length totals₀) 3 ≡ a → eqb said done ≡ b → (r ≡ done → ⊥)
      → (r beside reports beside totals) ≡ pick a (pick b (done beside reported sizes drawn measured (length sizes / 2) beside report_of (summed sizes drawn measured (length sizes / 2)))
      (said beside reports₀ beside report_of no_distance)) (wrong_length beside reports₀ beside totals₀)
      → Kept reports₀ totals₀ r reports totals
  unfolding report_of
  kept_by false b p q z e = let t = triple e in record { reports-kept = t.1; totals-zero = λ h. absurd (eqb-false (length totals₀) 3 p h) }
  kept_by true true p q z e = let t = triple e in absurd (z t.0)
  kept_by true false p q z e = let t = triple e in record { reports-kept = t.1; totals-zero = λ h. t.2 }

  module _ (e : Answered sizes drawn measured reports₀ totals₀ r reports totals) where
    pub told : r ≡ done → Told sizes drawn measured reports₀ totals₀ r reports totals
    unfolding distance_answer
    told z = told-by (eqb (length totals₀) 3) (eqb said done) refl refl z e

    pub refused-keeps : (r ≡ done → ⊥) → Kept reports₀ totals₀ r reports totals
    unfolding distance_answer
    refused-keeps z = kept_by (eqb (length totals₀) 3) (eqb said done) refl refl z e

    -- ---- one still
    module _ (z : r ≡ done) where
      report-at : (k j : ℕ) → k < length sizes / 2 → j < 3 → get_or reports (3 * k + j) 0 ≡ get_or (report_of (still_at sizes drawn measured k)) j 0
      unfolding reported
      report-at k j h l = rw (told z).each (joined_at (still_at sizes drawn measured) (length sizes / 2) k j h l)

      -- pixel i of still k stands at start_of k + i
      pub by-pixel : (k : ℕ) → k < length sizes / 2
          → (squares_in reports k ≡ total (pixels_of sizes k) (λ i. square_at drawn measured (start_of sizes k + i)))
          × (largest_in reports k ≡ largest (pixels_of sizes k) (λ i. apart_at drawn measured (start_of sizes k + i)))
          × (equal_in reports k ≡ total (pixels_of sizes k) (λ i. same_at drawn measured (start_of sizes k + i)))
      unfolding report_of still_at distance_from
      by-pixel k h = (report-at k 0 h (omega arith), report-at k 1 h (omega arith), report-at k 2 h (omega arith))

      -- ---- the totals
      pub totals-of : (squares_in totals 0 ≡ total (length sizes / 2) (squares_in reports))
          × (largest_in totals 0 ≡ largest (length sizes / 2) (largest_in reports))
          × (equal_in totals 0 ≡ total (length sizes / 2) (equal_in reports))
      unfolding summed report_of
      totals-of =
          let n = length sizes / 2 in
          let t = (told z).all in (
            ap (λ (l : List ℕ). get_or l 0 0) t ∙ total_ext n _ (squares_in reports) (λ k h. sym (report-at k 0 h (omega arith))),
            ap (λ (l : List ℕ). get_or l 1 0) t ∙ largest-ext n _ (largest_in reports) (λ k h. sym (report-at k 1 h (omega arith))),
            ap (λ (l : List ℕ). get_or l 2 0) t ∙ total_ext n _ (equal_in reports) (λ k h. sym (report-at k 2 h (omega arith))),
          )

      -- ---- all pixels of a still are equal
      abbrev Equal : ℕ → Type 0
      Equal k = (i : ℕ) → i < pixels_of sizes k → get_or drawn (start_of sizes k + i) 0 ≡ get_or measured (start_of sizes k + i) 0

      pub zero-equal : (k : ℕ) → k < length sizes / 2 → squares_in reports k ≡ 0 → Equal k
      zero-equal k h q i l =
          square-none drawn measured (start_of sizes k + i)
          (let t = total-at (pixels_of sizes k) (λ i. square_at drawn measured (start_of sizes k + i)) i l in omega (arith, t, (by-pixel k h).0, q))

      pub equal-zero : (k : ℕ) → k < length sizes / 2 → Equal k
          → (squares_in reports k ≡ 0) × (largest_in reports k ≡ 0) × (equal_in reports k ≡ pixels_of sizes k)
      equal-zero k h e =
          let n = pixels_of sizes k in
          let at = start_of sizes k in
          let p = by-pixel k h in (
            omega (arith, p.0, total-all 0 n (λ i. square_at drawn measured (at + i)) (λ i l. square-equal drawn measured (at + i) (e i l))),
            omega (arith, p.1, largest-≤ 0 n (λ i. apart_at drawn measured (at + i)) (λ i l. omega (arith, apart-equal drawn measured (at + i) (e i l)))),
            p.2 ∙ total-all 1 n (λ i. same_at drawn measured (at + i)) (λ i l. same-equal drawn measured (at + i) (e i l)) ∙ mul-one n,
          )

      -- ---- and over the list
      pub list-zero-equal : squares_in totals 0 ≡ 0 → (k : ℕ) → k < length sizes / 2 → Equal k
      list-zero-equal q k h =
          zero-equal k h
          (let t = total-at (length sizes / 2) (squares_in reports) k h in omega (arith, t, totals-of.0, q))

      pub list-equal-zero : ((k : ℕ) → k < length sizes / 2 → Equal k)
          → (squares_in totals 0 ≡ 0) × (largest_in totals 0 ≡ 0) × (equal_in totals 0 ≡ length drawn)
      unfolding start_of
      list-equal-zero e =
          let n = length sizes / 2 in
          let t = totals-of in
          let fits = lengths-say sizes (length drawn) (length measured) (length reports₀) (told z).accepts.lengths in (
            omega (arith, t.0, total-all 0 n (squares_in reports) (λ k h. (equal-zero k h (e k h)).0)),
            omega (arith, t.1, largest-≤ 0 n (largest_in reports) (λ k h. omega (arith, (equal-zero k h (e k h)).1))),
            t.2 ∙ total_ext n (equal_in reports) (pixels_of sizes) (λ k h. (equal-zero k h (e k h)).2) ∙ sym fits.drawn-fits,
          )

      -- ---- no total passes 64 bits: 71,495,743,596,134,400 is 4,096 * 1,024 * 1,024 * 256 * 255 * 255
      pub totals-fit : Bytes drawn → Bytes measured
          → (squares_in totals 0 ≤ 71495743596134400) × (largest_in totals 0 ≤ 255) × (equal_in totals 0 ≤ 1099511627776)
      unfolding report_of
      totals-fit p q =
          let n = length sizes / 2 in
          let t = told z in
          let s = t.accepts.sides in
          let few = t.accepts.few in
          let le : n ≤ n = omega arith in (
            omega (arith, ap (λ (l : List ℕ). get_or l 0 0) t.all, sum-squares-≤ sizes drawn measured s p q n le, few),
            omega (arith, ap (λ (l : List ℕ). get_or l 1 0) t.all, sum-largest-≤ sizes drawn measured s p q n),
            omega (arith, ap (λ (l : List ℕ). get_or l 2 0) t.all, sum-equal-≤ sizes drawn measured s n le, few),
          )

    -- the same of every call whose totals have their places, whether it is refused or not
    pub totals-64-bits : Bytes drawn → Bytes measured → length totals₀ ≡ 3
        → (squares_in totals 0 < 18446744073709551616) × (equal_in totals 0 < 18446744073709551616)
    totals-64-bits p q l = by (eqb r done) refl
      where
        by : (b : Bool) → eqb r done ≡ b → (squares_in totals 0 < 18446744073709551616) × (equal_in totals 0 < 18446744073709551616)
        by true h =
            let f = totals-fit (eqb-true r done h) p q in (omega (arith, f.0), omega (arith, f.2))
        by false h =
            let k = (refused-keeps (eqb-false r done h)).totals-zero l in
            (omega (arith, ap (λ (l : List ℕ). get_or l 0 0) k), omega (arith, ap (λ (l : List ℕ). get_or l 2 0) k))

-- ---- exchanging drawn and measured changes nothing
pub exchanged : (sizes drawn measured reports₀ totals₀ : List ℕ) (r s : ℕ) (reports others totals sums : List ℕ)
    → Answered sizes drawn measured reports₀ totals₀ r reports totals → Answered sizes measured drawn reports₀ totals₀ s others sums
    → (r ≡ s) × (reports ≡ others) × (totals ≡ sums)
exchanged sizes drawn measured reports₀ totals₀ r s reports others totals sums p q =
    triple (p ∙ answer-swap sizes drawn measured reports₀ totals₀ ∙ sym q)

-- ---- an empty list
pub no-stills : (totals₀ : List ℕ) (r : ℕ) (reports totals : List ℕ) → length totals₀ ≡ 3 → Answered [] [] [] [] totals₀ r reports totals
    → (r ≡ 0) × (reports ≡ []) × (totals ≡ 0 ∷ 0 ∷ 0 ∷ [])
unfolding distance_answer refusal sides_ok lengths_ok start_of total reported joined report_of summed largest
no-stills totals₀ r reports totals l e = triple (e ∙ rw (eq-eqb (length totals₀) 3 l))
