-- The four blocks of a luma block row, each with its DC from the Y2 block, and their residues. Assumes nothing.
use Prim.Native.Nat.{ℕ, zero, suc, ◌+◌, ◌*◌, ◌/◌, ◌%◌, ◌<◌}
use mathlib.Core.Path.{◌≡◌, ◌∙◌}
use mathlib.Core.List.{List}
use native.Mathlib.Omega.{arith}
use lib.IntN.{ℤ, pos}
use lib.ListN.{get_or, take}
use lib.Seq.{get_or-take}
use Rattle.lists.proofs.Updates.{updates-outside, updates-inside}
use Rattle.rfc6386.specs.Wht.{iwht}
use Rattle.rfc6386.specs.Dct.{residue, entry, idct_four}
use Rattle.rfc6386.specs.Walk.{seeded}
use Rattle.rfc6386.proofs.DctBlocks.{residue-ext, four-row}
use Rattle.rfc6386.proofs.Planes.{iwht-ext}
use Rattle.blocks.specs.Taken.{taken}
use Rattle.blocks.proofs.Places.{taken-length, taken_at}
use Rattle.planes.specs.Steps.{seeded_four}

-- the Y2 block, taken by itself
pub y2-taken : (coeffs : List ℤ) → iwht (taken 16 coeffs 0) ≡ iwht (take 16 coeffs)
y2-taken coeffs =
    iwht-ext (taken 16 coeffs 0) (take 16 coeffs) λ k l.
    let z : 0 + k ≡ k = omega arith in
    taken_at 16 coeffs 0 k l ∙ rw (z, get_or-take 16 coeffs k (pos 0) l)

abbrev pub row_of : List ℤ → ℕ → List ℤ
row_of coeffs i = seeded_four coeffs (iwht (take 16 coeffs)) i

module _ (coeffs : List ℤ) (i : ℕ) (hi : i < 4) where
  seeded-at : (b k : ℕ) → b < 4 → k < 16 → entry (row_of coeffs i) (16 * b + k) ≡ seeded coeffs (4 * i + b) k
  unfolding seeded_four seeded
  seeded-at b zero hb hk =
      let z : 16 * b + 0 ≡ 16 * b = omega arith in
      rw z
      (updates-inside (pos 0) (λ j. 16 * j) (λ j x. get_or (iwht (take 16 coeffs)) (4 * i + j) (pos 0)) 4 (taken 64 coeffs (16 + 64 * i)) b
      (λ x y p q e. omega arith) hb (rw taken-length (omega arith)))
  seeded-at b (suc k) hb hk =
      let z : 16 + 64 * i + (16 * b + suc k) ≡ 16 + 16 * (4 * i + b) + suc k = omega arith in
      updates-outside (pos 0) (λ j. 16 * j) (λ j x. get_or (iwht (take 16 coeffs)) (4 * i + j) (pos 0)) 4 (taken 64 coeffs (16 + 64 * i)) (16 * b + suc k)
      (λ j l e. omega arith)
      ∙ taken_at 64 coeffs (16 + 64 * i) (16 * b + suc k) (omega arith) ∙ rw z

  -- column c of row r of the residues
  pub seeded-residue : (r c : ℕ) → r < 4 → c < 16 → get_or (idct_four (row_of coeffs i)) (16 * r + c) (pos 0) ≡ residue (seeded coeffs (4 * i + c / 4)) r (c % 4)
  seeded-residue r c hr hc =
      four-row (row_of coeffs i) r c (pos 0) hr hc
      ∙ residue-ext _ (seeded coeffs (4 * i + c / 4)) (λ k l. seeded-at (c / 4) k (omega arith) l) r (c % 4)
