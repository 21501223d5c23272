-- What the tests of the sizes and the lengths say, and how many pixels a still and a list have at most. Assumes nothing.
use Prim.Native.Nat.{ℕ, zero, suc, ◌+◌, ◌-◌, ◌*◌, ◌/◌, ◌%◌, ◌<◌, ◌≤◌}
use mathlib.Core.Bool.{Bool, true, false}
use mathlib.Core.List.{List}
use mathlib.Core.Logic.{⊎_elim}
use mathlib.Core.Path.{◌≡◌, refl, sym, ap}
use native.Mathlib.Nat.{mul-le-mul, eq-or-lt_of_le, le_of_suc-le-suc}
use native.Mathlib.Omega.{arith}
use borrow.Author.Tests.{lt-ltb, le-ltb, leb-true, eqb-true, ltb-false}
use lib.Dec.{eqb, leb, ltb}
use lib.ListN.{length, get_or}
use Rattle.std.proofs.lemmas.Grind.{get_or_default_zero}
use Rattle.std.specs.Prelude.{IsTrue, All, ◌↔◌, ◌&&◌}
use Rattle.lists.specs.Lists.{pick, both, total}
use Rattle.lists.proofs.Tests.{left-holds, right-holds}
use Rattle.macroblock.specs.Reply.{done, wrong_length, outside_picture}
use Rattle.lists.proofs.Total.{total-turn, total-≤, total-add}
use Rattle.distance.specs.Stills.{pixels_of, start_of}
use Rattle.distance.specs.Answer.{too_many, side_ok, sides_ok, lengths_ok, refusal, Accepted, Plane}

-- ---- sides
pub record Side (s : ℕ) : Type 0 where
  pub low : 1 ≤ s
  pub high : s ≤ 1024

pub side-says : (s : ℕ) → side_ok s ≡ true → Side s
unfolding side_ok
side-says s e =
    record { low = leb-true 1 s (left-holds (leb 1 s) (leb s 1024) e); high = leb-true s 1024 (right-holds (leb 1 s) (leb s 1024) e) }

every : (sizes : List ℕ) (n : ℕ) → ((k : ℕ) → k < n → side_ok (get_or sizes k 0) ≡ true) → sides_ok sizes n ≡ true
unfolding sides_ok
every sizes zero h = refl
every sizes (suc n) h = rw (every sizes n (λ k l. h k (omega arith)), h n (omega arith))

each : (sizes : List ℕ) (n : ℕ) → sides_ok sizes n ≡ true → (k : ℕ) → k < n → side_ok (get_or sizes k 0) ≡ true
unfolding sides_ok
each sizes zero e k h = absurd (omega (arith, h))
each sizes (suc n) e k h =
    ⊎_elim (λ q. rw q (right-holds (sides_ok sizes n) (side_ok (get_or sizes n 0)) e))
    (λ l. each sizes n (left-holds (sides_ok sizes n) (side_ok (get_or sizes n 0)) e) k l) (eq-or-lt_of_le (le_of_suc-le-suc h))

two_tests : (a b : Bool) → (a ≡ true → b ≡ true) → (b ≡ true → a ≡ true) → a ≡ b
two_tests true b f g = sym (f refl)
two_tests false true f g = g refl
two_tests false false f g = refl

pub sides-all : (ok : Bool) (sizes : List ℕ) → (IsTrue ok ↔ All (λ s. IsTrue (side_ok s)) sizes) → ok ≡ sides_ok sizes (length sizes)
sides-all ok sizes e =
    two_tests ok (sides_ok sizes (length sizes)) (λ h. every sizes (length sizes) (λ k l. e.0 h k 0 l))
    (λ h. e.1 (λ k d l. rw (get_or_default_zero sizes k d l) (each sizes (length sizes) h k l)))

pub sides-say : (sizes : List ℕ) (n : ℕ) → sides_ok sizes n ≡ true → (i : ℕ) → i < n → Side (get_or sizes i 0)
sides-say sizes n e i h = side-says (get_or sizes i 0) (each sizes n e i h)

-- ---- pixels
module _ (sizes : List ℕ) (e : sides_ok sizes (length sizes) ≡ true) where
  pub area-≤ : (k : ℕ) → 2 * k + 1 < length sizes → get_or sizes (2 * k) 0 * get_or sizes (2 * k + 1) 0 ≤ 1048576
  area-≤ k h =
      let w = sides-say sizes (length sizes) e (2 * k) (omega (arith, h)) in
      let r = sides-say sizes (length sizes) e (2 * k + 1) h in
      mul-le-mul w.high r.high

  pub pixels-≤ : (k : ℕ) → 2 * k + 1 < length sizes → pixels_of sizes k ≤ 268435456
  unfolding pixels_of
  pixels-≤ k h = omega (arith, area-≤ k h)

  -- 1,024 by 1,024 macroblocks are 268,435,456 pixels
  pub start-≤ : (n : ℕ) → n ≤ length sizes / 2 → start_of sizes n ≤ n * 268435456
  unfolding start_of
  start-≤ n h = total-≤ 268435456 n (pixels_of sizes) (λ i l. pixels-≤ i (omega arith))

pub pixels-whole : (sizes : List ℕ) (k : ℕ) → pixels_of sizes k % 256 ≡ 0
unfolding pixels_of
pixels-whole sizes k = omega arith

pub start_none : (sizes : List ℕ) → 0 ≡ start_of sizes 0
unfolding start_of total
start_none sizes = refl

pub start-turn : (sizes : List ℕ) (k at n : ℕ) → at ≡ start_of sizes k → n ≡ pixels_of sizes k → at + n ≡ start_of sizes (k + 1)
unfolding start_of
start-turn sizes k at n e h = total-turn k (pixels_of sizes) at n e h

pub start-within : (sizes : List ℕ) (m n : ℕ) → m ≤ n → start_of sizes m ≤ start_of sizes n
unfolding start_of
start-within sizes m n h =
    let e : m + (n - m) ≡ n = omega arith in
    omega (arith, ap (λ (k : ℕ). total k (pixels_of sizes)) e, total-add m (n - m) (pixels_of sizes))

-- ---- lengths
pub record Lengths (sizes : List ℕ) (drawn measured reports : ℕ) : Type 0 where
  pub even : length sizes % 2 ≡ 0
  pub drawn-fits : drawn ≡ start_of sizes (length sizes / 2)
  pub measured-fits : measured ≡ start_of sizes (length sizes / 2)
  pub reports-fit : reports ≡ 3 * (length sizes / 2)

module _ (sizes : List ℕ) (drawn measured reports : ℕ) where
  abbrev end : ℕ
  end = start_of sizes (length sizes / 2)

  pub lengths-say : lengths_ok sizes drawn measured reports ≡ true → Lengths sizes drawn measured reports
  unfolding lengths_ok
  lengths-say e =
      let last = eqb reports (3 * (length sizes / 2)) in
      let two = both (eqb measured end) last in
      let three = both (eqb drawn end) two in
      let e₁ = right-holds (eqb (length sizes % 2) 0) three e in
      let e₂ = right-holds (eqb drawn end) two e₁ in
      record {
        even = eqb-true _ 0 (left-holds (eqb (length sizes % 2) 0) three e);
        drawn-fits = eqb-true drawn end (left-holds (eqb drawn end) two e₁);
        measured-fits = eqb-true measured end (left-holds (eqb measured end) last e₂);
        reports-fit = eqb-true reports _ (right-holds (eqb measured end) last e₂);
      }

  all-four : (a b c d : Bool) → (((a && b) && c) && d) ≡ both a (both b (both c d))
  all-four true true true d = refl
  all-four true true false d = refl
  all-four true false c d = refl
  all-four false b c d = refl

  pub by-lengths : (((eqb (length sizes % 2) 0 && eqb drawn end) && eqb measured end) && eqb reports (3 * (length sizes / 2))) ≡ lengths_ok sizes drawn measured reports
  unfolding lengths_ok
  by-lengths = all-four (eqb (length sizes % 2) 0) (eqb drawn end) (eqb measured end) (eqb reports (3 * (length sizes / 2)))

-- ---- the refusals in their order
module _ (sizes : List ℕ) (drawn measured reports : ℕ) where
  pub refused-many : 8192 < length sizes → too_many ≡ refusal sizes drawn measured reports
  unfolding refusal
  refused-many h = rw (lt-ltb 8192 (length sizes) h)

  module _ (few : length sizes ≤ 8192) where
    pub refused-sides : sides_ok sizes (length sizes) ≡ false → outside_picture ≡ refusal sizes drawn measured reports
    unfolding refusal
    refused-sides e = rw (le-ltb 8192 (length sizes) few, e)

    pub refused-lengths : sides_ok sizes (length sizes) ≡ true → lengths_ok sizes drawn measured reports ≡ false → wrong_length ≡ refusal sizes drawn measured reports
    unfolding refusal
    refused-lengths s e = rw (le-ltb 8192 (length sizes) few, s, e)

    pub not-refused : sides_ok sizes (length sizes) ≡ true → lengths_ok sizes drawn measured reports ≡ true → done ≡ refusal sizes drawn measured reports
    unfolding refusal
    not-refused s e = rw (le-ltb 8192 (length sizes) few, s, e)

  by_tests : (a b d : Bool) → ltb 8192 (length sizes) ≡ a → sides_ok sizes (length sizes) ≡ b → lengths_ok sizes drawn measured reports ≡ d
      → pick a too_many (pick b (pick d done wrong_length) outside_picture) ≡ done → Accepted sizes drawn measured reports
  by_tests true b d p q r e = absurd (omega (arith, e))
  by_tests false false d p q r e = absurd (omega (arith, e))
  by_tests false true false p q r e = absurd (omega (arith, e))
  by_tests false true true p q r e = record { few = ltb-false 8192 (length sizes) p; sides = q; lengths = r }

  -- a call that is not refused
  pub accepted : refusal sizes drawn measured reports ≡ done → Accepted sizes drawn measured reports
  unfolding refusal
  accepted e = by_tests (ltb 8192 (length sizes)) (sides_ok sizes (length sizes)) (lengths_ok sizes drawn measured reports) refl refl refl e

-- ---- the plane of still k in an accepted call, n pixels from `at` on
pub record Placed (sizes : List ℕ) (drawn measured reports k at n : ℕ) : Type 0 where
  pub after : at + n ≡ start_of sizes (k + 1)
  pub plane : Plane at (at + n) drawn measured
  pub fits : at + n ≤ 1099511627776
  pub report : 3 * k + 3 ≤ reports

pub placed : (sizes : List ℕ) (drawn measured reports : ℕ) → Accepted sizes drawn measured reports → (k at n : ℕ) → k < length sizes / 2
    → at ≡ start_of sizes k → n ≡ pixels_of sizes k → Placed sizes drawn measured reports k at n
placed sizes drawn measured reports a k at n h e q =
    let l = lengths-say sizes drawn measured reports a.lengths in
    let f : at + n ≡ start_of sizes (k + 1) = start-turn sizes k at n e q in
    let w = start-within sizes (k + 1) (length sizes / 2) (omega arith) in
    let g : at + n - at ≡ n = omega arith in
    record {
      after = f;
      plane =
          record {
            forward = omega arith;
            in-drawn = omega (arith, l.drawn-fits);
            in-measured = omega (arith, l.measured-fits);
            whole = rw (g, q) (pixels-whole sizes k);
            small = omega (arith, pixels-≤ sizes a.sides k (omega arith));
          };
      fits = omega (arith, start-≤ sizes a.sides (k + 1) (omega arith), a.few);
      report = omega (arith, l.reports-fit);
    }
