-- A block with every coefficient from -8191 to 8191: nothing wraps and nothing narrows, whether the numbers between the passes are kept at
-- 32 bits (`residue`, as the Rust) or at 16 (`residue_listing`). Both are the transform in whole numbers without bound, `residue_plain`.
-- Assumes nothing.
use mathlib.Core.Path.{◌≡◌, sym, ap, ◌∙◌}
use Prim.Native.Nat.{ℕ, ◌+◌}
use native.Mathlib.Omega.{arith}
use lib.Dec.{lit<, lit≤}
use lib.IntN.{ℤ, pos, ◌+ℤ◌}
use lib.Signed.{shr_z}
use Rattle.whole.specs.Whole.{narrow}
use Rattle.whole.proofs.Linear.{split, split2, linear}
use Rattle.whole.proofs.Floor.{Floor, floor}
use Rattle.whole.proofs.Range.{Small, Signed, small_signed, small-wider}
use Rattle.whole.proofs.Modulo.{narrow-is}
use Rattle.rfc6386.specs.Dct.{column, passes, wrapped, unbounded, rounded, residue, residue_listing, residue_plain}
use Rattle.rfc6386.proofs.DctPass.{still, pass_same, pass-small, Words, inner}

-- the closing rounding neither wraps nor narrows
pub rounded-plain : (z : ℤ) → Small 130000 z → rounded z ≡ shr_z (z +ℤ pos 4) 8
unfolding rounded
rounded-plain z s =
    ap (λ (u : ℤ). narrow (shr_z u 8)) (still (z +ℤ pos 4) (plus z s))
    ∙ narrow-is (shr_z (z +ℤ pos 4) 8) (at z (shr_z (z +ℤ pos 4) 8) s (floor 8 (z +ℤ pos 4) (lit< tt)))
  where
    plus : (z : ℤ) → Small 130000 z → Small 2000000000 (z +ℤ pos 4)
    plus = split _ λ _ _. simp linear (omega arith)

    at : (z q : ℤ) → Small 130000 z → Floor 8 (z +ℤ pos 4) q → Signed 32768 q
    at = split2 _ λ _ _ _ _. simp linear (omega arith)

module _ (x : ℕ → ℤ) (h : (k : ℕ) → Small 8191 (x k)) where
  entry-small : (k : ℕ) → Small 32768 (x k)
  entry-small k = small-wider 8191 32768 (lit≤ tt) (x k) (h k)

  -- between the passes: 16 bits hold it
  pub column-small : (r c : ℕ) → Small 32767 (column unbounded x r c)
  unfolding column
  column-small r c =
      pass-small r 8191 32767 (lit≤ tt) (x c) (x (4 + c)) (x (8 + c)) (x (12 + c)) (h c) (h (4 + c)) (h (8 + c)) (h (12 + c))

  between : (r c : ℕ) → Small 32768 (column unbounded x r c)
  between r c = small-wider 32767 32768 (lit≤ tt) (column unbounded x r c) (column-small r c)

  column-same : (r c : ℕ) → column wrapped x r c ≡ column unbounded x r c
  unfolding column
  column-same r c =
      pass_same r (x c) (x (4 + c)) (x (8 + c)) (x (12 + c)) (entry-small c) (entry-small (4 + c)) (entry-small (8 + c)) (entry-small (12 + c))

  column-narrow : (r c : ℕ) → narrow (column wrapped x r c) ≡ column unbounded x r c
  column-narrow r c =
      rw column-same (narrow-is (column unbounded x r c) (small_signed 32767 32768 (lit< tt) (column unbounded x r c) (column-small r c)))

  -- whatever stands between the passes, if it keeps the columns
  passes_same : (mid : ℤ → ℤ) → ((r c : ℕ) → mid (column wrapped x r c) ≡ column unbounded x r c) → (r c : ℕ)
      → passes wrapped mid x r c ≡ passes unbounded (λ z. z) x r c
  unfolding passes
  passes_same mid e r c =
      rw (e r 0, e r 1, e r 2, e r 3)
      (pass_same c (column unbounded x r 0) (column unbounded x r 1) (column unbounded x r 2) (column unbounded x r 3)
      (between r 0) (between r 1) (between r 2) (between r 3))

  pub passes-small : (r c : ℕ) → Small 130000 (passes unbounded (λ z. z) x r c)
  unfolding passes
  passes-small r c =
      pass-small c 32767 130000 (lit≤ tt) (column unbounded x r 0) (column unbounded x r 1) (column unbounded x r 2) (column unbounded x r 3)
      (column-small r 0) (column-small r 1) (column-small r 2) (column-small r 3)

  pub residue-plain : (r c : ℕ) → residue x r c ≡ residue_plain x r c
  unfolding residue residue_plain
  residue-plain r c = rw (passes_same (λ z. z) column-same) (rounded-plain (passes unbounded (λ z. z) x r c) (passes-small r c))

  pub listing-plain : (r c : ℕ) → residue_listing x r c ≡ residue_plain x r c
  unfolding residue_listing residue_plain
  listing-plain r c = rw (passes_same narrow column-narrow) (rounded-plain (passes unbounded (λ z. z) x r c) (passes-small r c))

  -- so 32 bits between the passes, as the Rust has them, and 16, as the RFC's listing has them, give the same
  pub residue-listing : (r c : ℕ) → residue x r c ≡ residue_listing x r c
  residue-listing r c = residue-plain r c ∙ sym (listing-plain r c)

  -- every number that the column pass makes in column c, and that the row pass makes in row r, is one of 32 bits
  pub column-inner : (c : ℕ) → Words (x c) (x (4 + c)) (x (8 + c)) (x (12 + c))
  column-inner c =
      inner (x c) (x (4 + c)) (x (8 + c)) (x (12 + c)) (entry-small c) (entry-small (4 + c)) (entry-small (8 + c)) (entry-small (12 + c))

  pub row-inner : (r : ℕ) → Words (column unbounded x r 0) (column unbounded x r 1) (column unbounded x r 2) (column unbounded x r 3)
  row-inner r =
      inner (column unbounded x r 0) (column unbounded x r 1) (column unbounded x r 2) (column unbounded x r 3)
      (between r 0) (between r 1) (between r 2) (between r 3)
