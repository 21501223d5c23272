-- The transforms as lists: how long they are, and which residue stands where.
--     idct-at       residue at row r and column c of one block, at 4 r + c
--     four-row      of four blocks side by side: column c of row r, at 16 r + c, belongs to block c / 4
--     four-at       the same, of block b
-- Assumes nothing.
use mathlib.Core.Path.{◌≡◌, ◌∙◌}
use mathlib.Core.List.{List}
use Prim.Native.Nat.{ℕ, ◌+◌, ◌*◌, ◌/◌, ◌%◌, ◌<◌}
use native.Mathlib.Omega.{arith}
use lib.Dec.{lit<}
use lib.IntN.{ℤ}
use lib.ListN.{length, get_or}
use Rattle.lists.proofs.Rows.{rows-length, rows_at}
use Rattle.rfc6386.specs.Dct.{column, passes, residue, entry, idct, idct_four}

pub idct-length : (l : List ℤ) → length (idct l) ≡ 16
unfolding idct
idct-length l = rows-length 4 4 (residue (entry l))

pub idct_four-length : (l : List ℤ) → length (idct_four l) ≡ 64
unfolding idct_four
idct_four-length l = rows-length 16 4 (λ r c. residue (λ k. entry l (16 * (c / 4) + k)) r (c % 4))

-- a residue depends on the block's sixteen coefficients only
pub residue-ext : (x y : ℕ → ℤ) → ((k : ℕ) → k < 16 → x k ≡ y k) → (r c : ℕ) → residue x r c ≡ residue y r c
unfolding residue passes column
residue-ext x y e r c =
    rw (
      e 0 (lit< tt),
      e 1 (lit< tt),
      e 2 (lit< tt),
      e 3 (lit< tt),
      e 4 (lit< tt),
      e 5 (lit< tt),
      e 6 (lit< tt),
      e 7 (lit< tt),
      e 8 (lit< tt),
      e 9 (lit< tt),
      e 10 (lit< tt),
      e 11 (lit< tt),
      e 12 (lit< tt),
      e 13 (lit< tt),
      e 14 (lit< tt),
      e 15 (lit< tt),
    )

module _ (l : List ℤ) (r c : ℕ) (d : ℤ) where
  pub idct-at : r < 4 → c < 4 → get_or (idct l) (4 * r + c) d ≡ residue (entry l) r c
  unfolding idct
  idct-at h k =
      let e : 4 * r + c ≡ r * 4 + c = omega arith in
      rw e (rows_at 4 4 (residue (entry l)) r c d h k)

  pub four-row : r < 4 → c < 16 → get_or (idct_four l) (16 * r + c) d ≡ residue (λ k. entry l (16 * (c / 4) + k)) r (c % 4)
  unfolding idct_four
  four-row h k =
      let e : 16 * r + c ≡ r * 16 + c = omega arith in
      rw e (rows_at 16 4 (λ r c. residue (λ k. entry l (16 * (c / 4) + k)) r (c % 4)) r c d h k)

pub four-at : (l : List ℤ) (r b c : ℕ) (d : ℤ) → r < 4 → b < 4 → c < 4
    → get_or (idct_four l) (16 * r + 4 * b + c) d ≡ residue (λ k. entry l (16 * b + k)) r c
four-at l r b c d hr hb hc =
    let i : 16 * r + 4 * b + c ≡ 16 * r + (4 * b + c) = omega arith in
    let q : (4 * b + c) / 4 ≡ b = omega arith in
    let m : (4 * b + c) % 4 ≡ c = omega arith in
    rw i (four-row l r (4 * b + c) d hr (omega arith) ∙ rw (q, m))
