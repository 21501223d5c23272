-- A block whose other fifteen coefficients are 0: each residue is the first coefficient's closing rounding, for every first coefficient of 16 bits.
-- Assumes nothing.
use mathlib.Core.Path.{◌≡◌, refl, ◌∙◌}
use mathlib.Core.List.{List, ◌∷◌}
use Prim.Native.Nat.{ℕ, zero, suc, ◌+◌, ◌<◌}
use native.Mathlib.Numerals.{add-one}
use native.Mathlib.Omega.{arith}
use lib.Dec.{lit≤}
use lib.IntN.{ℤ, pos, ◌+ℤ◌}
use lib.ListN.{replicate, get_or-replicate}
use lib.Signed.{shr_z, le_z_yes}
use mir.Syntax.{w16}
use mir.Val.{SFits}
use Rattle.whole.proofs.Linear.{split, linear}
use Rattle.whole.proofs.Range.{Small, abs-small, small-wider}
use Rattle.whole.proofs.Held.{abs-fits}
use Rattle.lists.proofs.Table.{table_same}
use Rattle.lists.proofs.Rows.{rows_ext, rows_same}
use Rattle.rfc6386.specs.Dct.{pass, column, passes, wrapped, unbounded, residue, entry, idct, idct_dc}
use Rattle.rfc6386.proofs.DctPass.{pass_same}
use Rattle.rfc6386.proofs.DctRange.{rounded-plain}
use Rattle.rfc6386.proofs.DctBlocks.{residue-ext}

plain-dc : (k : ℕ) (z : ℤ) → pass unbounded k z (pos 0) (pos 0) (pos 0) ≡ z
unfolding pass
plain-dc zero = split _ λ _ _. simp linear (omega arith)
plain-dc (suc zero) = split _ λ _ _. simp linear (omega arith)
plain-dc (suc (suc zero)) = split _ λ _ _. simp linear (omega arith)
plain-dc (suc (suc (suc k))) = split _ λ _ _. simp linear (omega arith)

zero-small : Small 32768 (pos 0)
zero-small = (le_z_yes tt, le_z_yes tt)

pub pass-dc : (k : ℕ) (z : ℤ) → Small 32768 z → pass wrapped k z (pos 0) (pos 0) (pos 0) ≡ z
pass-dc k z h = pass_same k z (pos 0) (pos 0) (pos 0) h zero-small zero-small zero-small ∙ plain-dc k z

-- the block
abbrev alone : ℤ → ℕ → ℤ
alone z zero = z
alone z (suc k) = pos 0

passes-dc : (z : ℤ) → Small 32768 z → (r c : ℕ) → passes wrapped (λ z. z) (alone z) r c ≡ z
unfolding passes column
passes-dc z h r c = rw (pass-dc r z h, pass-dc r (pos 0) zero-small) (pass-dc c z h)

module _ (x : ℕ → ℤ) (e : (k : ℕ) → k < 15 → x (k + 1) ≡ pos 0) (f : SFits w16 (x 0)) where
  is-alone : (k : ℕ) → k < 16 → x k ≡ alone (x 0) k
  is-alone zero h = refl
  is-alone (suc k) h = rw (← add-one) (e k (omega arith))

  pub residue-dc : (r c : ℕ) → residue x r c ≡ shr_z (x 0 +ℤ pos 4) 8
  unfolding residue
  residue-dc r c =
      let h : Small 32768 (x 0) = abs-small 32768 (x 0) (abs-fits w16 (x 0) f) in
      residue-ext x (alone (x 0)) is-alone r c
      ∙ rw (passes-dc (x 0) h r c) (rounded-plain (x 0) (small-wider 32768 130000 (lit≤ tt) (x 0) h))

-- a list of coefficients that are 0 from the second on: the full transform is the one of its first alone
pub dc-only-is-full : (l : List ℤ) → ((k : ℕ) → k < 15 → entry l (k + 1) ≡ pos 0) → SFits w16 (entry l 0) → idct l ≡ idct_dc (entry l 0)
unfolding idct idct_dc
dc-only-is-full l e f =
    let v = shr_z (entry l 0 +ℤ pos 4) 8 in
    rows_ext 4 4 (residue (entry l)) (λ r c. v) (λ r c _ _. residue-dc (entry l) e f r c) ∙ rows_same v 4 4 ∙ table_same v 16

pub idct-dc : (dc : ℤ) → SFits w16 dc → idct (dc ∷ replicate 15 (pos 0)) ≡ idct_dc dc
idct-dc dc f = dc-only-is-full (dc ∷ replicate 15 (pos 0)) (λ k l. rw add-one (get_or-replicate 15 k (pos 0) (pos 0) l)) f
