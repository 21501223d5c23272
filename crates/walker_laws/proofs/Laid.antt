-- The work buffer as a walk finds it: a row and a column laid into it, and the row's last four once more, and where each of them stands.
--     row_at, column-at     the row above, the left column
--     copy_at               the last four of the row once more, in rows 4, 8 and 12
-- Assumes nothing.
use Prim.Native.Nat.{ℕ, zero, suc, ◌+◌, ◌*◌, ◌%◌, ◌<◌, ◌≤◌}
use mathlib.Core.Path.{◌≡◌, refl, ap, ◌∙◌}
use mathlib.Core.Bool.{Bool, true, false}
use mathlib.Core.List.{List}
use mathlib.Core.Logic.{◌⊎◌, inl, inr, ⊎_elim}
use native.Mathlib.Omega.{arith}
use borrow.Author.Tests.{ltb-true, ltb-false}
use lib.Dec.{ltb}
use lib.ListN.{length, get_or, replicate}
use Rattle.lists.specs.Lists.{part}
use Rattle.lists.proofs.Table.{table_at}
use Rattle.lists.proofs.Updates.{updates-length, updates-outside, updates-inside}
use Rattle.rfc6386.specs.Walk.{laid, blank, copied_down, bordered}

-- ---- numbers, compared
pub below : (a b : ℕ) → (a < b) ⊎ (b ≤ a)
below a b = by (ltb a b) refl
  where
    by : (t : Bool) → ltb a b ≡ t → (a < b) ⊎ (b ≤ a)
    by true e = inl (ltb-true a b e)
    by false e = inr (ltb-false a b e)

-- ---- pixels laid into the buffer
laid-length : (n at step : ℕ) (s b : List ℕ) → length (laid n at step s b) ≡ length b
unfolding laid
laid-length n at step s b = updates-length 0 (λ i. at + i * step) (λ i x. get_or s i 0) n b

laid-outside : (n at step : ℕ) (s b : List ℕ) (j : ℕ) → ((i : ℕ) → i < n → j ≡ at + i * step → ⊥) → get_or (laid n at step s b) j 0 ≡ get_or b j 0
unfolding laid
laid-outside n at step s b j h = updates-outside 0 (λ i. at + i * step) (λ i x. get_or s i 0) n b j h

laid-inside : (n at step : ℕ) (s b : List ℕ) (k : ℕ) → ((i j : ℕ) → i < n → j < n → at + i * step ≡ at + j * step → i ≡ j) → k < n → at + k * step < length b
    → get_or (laid n at step s b) (at + k * step) 0 ≡ get_or s k 0
unfolding laid
laid-inside n at step s b k apart l h = updates-inside 0 (λ i. at + i * step) (λ i x. get_or s i 0) n b k apart l h

-- ---- the buffer: a row and a column, and the row's last four once more in three rows
-- in a row
along : (n at : ℕ) (s b : List ℕ) (k : ℕ) → k < n → at + k < length b → get_or (laid n at 1 s b) (at + k) 0 ≡ get_or s k 0
along n at s b k l h =
    ap (λ (q : ℕ). get_or (laid n at 1 s b) q 0) (omega arith) ∙ laid-inside n at 1 s b k (λ i j _ _ e. omega arith) l (omega arith)

aside : (n at : ℕ) (s b : List ℕ) (j : ℕ) → (j < at) ⊎ (at + n ≤ j) → get_or (laid n at 1 s b) j 0 ≡ get_or b j 0
aside n at s b j h = laid-outside n at 1 s b j (λ i l e. ⊎_elim (λ z. omega arith) (λ z. omega arith) h)

blank-length : length (replicate {A = ℕ} 357 0) ≡ 357
blank-length = refl

module _ (row left : List ℕ) where
  -- the row; with the left column
  unfoldable one : List ℕ
  one = laid 21 0 1 row blank

  unfoldable two : List ℕ
  two = laid 16 21 21 left one

  abbrev right : List ℕ
  right = part 4 row 17

  one-length : length one ≡ 357
  unfolding one blank
  one-length = laid-length 21 0 1 row (replicate 357 0) ∙ blank-length

  two-length : length two ≡ 357
  unfolding two
  two-length = laid-length 16 21 21 left one ∙ one-length

  -- the last four once more, in rows 4, 8 and 12
  abbrev all : List ℕ
  all = bordered row left

  all-is : all ≡ laid 4 269 1 right (laid 4 185 1 right (laid 4 101 1 right two))
  unfolding bordered copied_down two one
  all-is = refl

  -- what is none of these twelve
  past-copies : (j : ℕ) → (j < 101) ⊎ (j % 21 < 17) → get_or all j 0 ≡ get_or two j 0
  past-copies j h =
      let s : List ℕ = laid 4 101 1 right two in
      let t : List ℕ = laid 4 185 1 right s in
      rw (
        all-is,
        laid-outside 4 269 1 right t j (λ i l e. ⊎_elim (λ z. omega arith) (λ z. omega arith) h),
        laid-outside 4 185 1 right s j (λ i l e. ⊎_elim (λ z. omega arith) (λ z. omega arith) h),
        laid-outside 4 101 1 right two j (λ i l e. ⊎_elim (λ z. omega arith) (λ z. omega arith) h),
      )

  -- ---- where each stands
  pub row_at : (c : ℕ) → c < 21 → get_or all c 0 ≡ get_or row c 0
  unfolding two one blank
  row_at c h =
      let z : c ≡ 0 + c = omega arith in
      past-copies c (inl (omega arith)) ∙ laid-outside 16 21 21 left one c (λ i l e. omega arith)
      ∙ ap (λ (q : ℕ). get_or (laid 21 0 1 row (replicate 357 0)) q 0) z ∙ along 21 0 row (replicate 357 0) c h (rw blank-length (omega arith))

  pub column-at : (r : ℕ) → r < 16 → get_or all (21 + r * 21) 0 ≡ get_or left r 0
  unfolding two
  column-at r h =
      past-copies (21 + r * 21) (inr (omega arith))
      ∙ laid-inside 16 21 21 left one r (λ i j _ _ e. omega arith) h (rw one-length (omega arith))

  -- the copies in rows 4, 8 and 12
  copy-length : length (laid 4 101 1 right two) ≡ 357
  copy-length = laid-length 4 101 1 right two ∙ two-length

  copies_length : length (laid 4 185 1 right (laid 4 101 1 right two)) ≡ 357
  copies_length = laid-length 4 185 1 right (laid 4 101 1 right two) ∙ copy-length

  copied_at : (r i : ℕ) → r < 3 → i < 4 → get_or all (101 + 84 * r + i) 0 ≡ get_or right i 0
  copied_at zero i l h =
      rw (
        all-is,
        aside 4 269 right (laid 4 185 1 right (laid 4 101 1 right two)) (101 + i) (inl (omega arith)),
        aside 4 185 right (laid 4 101 1 right two) (101 + i) (inl (omega arith)),
        along 4 101 right two i h (rw two-length (omega arith)),
      )
  copied_at (suc zero) i l h =
      rw (
        all-is,
        aside 4 269 right (laid 4 185 1 right (laid 4 101 1 right two)) (185 + i) (inl (omega arith)),
        along 4 185 right (laid 4 101 1 right two) i h (rw copy-length (omega arith)),
      )
  copied_at (suc (suc zero)) i l h =
      rw (all-is, along 4 269 right (laid 4 185 1 right (laid 4 101 1 right two)) i h (rw copies_length (omega arith)))
  copied_at (suc (suc (suc r))) i l h = absurd (omega arith)

  pub copy_at : (r i : ℕ) → r < 3 → i < 4 → get_or all (101 + 84 * r + i) 0 ≡ get_or row (17 + i) 0
  unfolding part
  copy_at r i l h = copied_at r i l h ∙ table_at 4 (λ j. get_or row (17 + j) 0) i 0 h
