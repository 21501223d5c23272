-- The count of a block: a sum over its pixels, and an AC-free block, which counts the same by either way.
--     pairs-clipped     the sum over a block's pairs of a pixel and its residue
--     sub-is-block      a sub-block counts as its residue's list does
--     ac-free-block     the full transform and the DC-only one count the same; ac-free-at, in a plane
--     ac-free-dc        and so does the first coefficient's closing rounding alone; ac-free-sub, of a sub-block
-- Assumes nothing.
use mathlib.Core.Bool.{false}
use mathlib.Core.Path.{◌≡◌, sym, ap, ◌∙◌}
use mathlib.Core.List.{List}
use Prim.Native.Nat.{ℕ, ◌+◌, ◌*◌, ◌/◌, ◌%◌, ◌<◌}
use native.Mathlib.Omega.{arith}
use lib.IntN.{ℤ, pos, ◌+ℤ◌}
use lib.ListN.{length, get_or, get_or-replicate}
use Rattle.std.specs.List.{sum_by, zip}
use Rattle.std.proofs.lemmas.Slice.Zip.{length-zip, get_or-zip}
use lib.Signed.{shr_z}
use mir.Syntax.{w16}
use mir.Val.{SFits}
use Rattle.whole.proofs.Held.{R16}
use Rattle.rfc6386.specs.Dct.{residue, entry, idct, idct_dc}
use Rattle.rfc6386.proofs.DctBlocks.{idct-at}
use Rattle.rfc6386.proofs.DctDc.{residue-dc, dc-only-is-full}
use Rattle.clipping.specs.Clipped.{over, block_clipped, clipped_at, dc_clipped, sub_clipped}
use Rattle.lists.proofs.Total.{sum-total, total_ext}

-- pixel i
abbrev pub over_of : List ℕ → List ℤ → ℕ → ℕ
over_of p r i = over (get_or p i 0) (get_or r i (pos 0))

-- the sum over the pairs of a pixel and its residue, as the machine has them
abbrev pub counted : ℕ × ℤ → ℕ
counted z = over z.0 (R16 z.1)

pub pairs-clipped : (p : List ℕ) (r : List ℤ) → length p ≡ 16 → length r ≡ 16 → ((i : ℕ) → R16 (get_or r i (pos 0)) ≡ get_or r i (pos 0))
    → sum_by counted (zip p r) ≡ block_clipped 16 p r
unfolding block_clipped
pairs-clipped p r h k w =
    sum-total counted (zip p r) (0, pos 0) 16 (length-zip p r ∙ omega arith)
    ∙ total_ext 16 (λ i. counted (get_or (zip p r) i (0, pos 0))) (over_of p r) (λ i l.
    ap counted (get_or-zip p r i (0, pos 0) (omega arith) (omega arith)) ∙ ap (λ (z : ℤ). over (get_or p i 0) z) (w i))

module _ (p : List ℕ) where
  pub sub-is-block : (l : List ℤ) → sub_clipped false p (entry l) ≡ block_clipped 16 p (idct l)
  unfolding sub_clipped block_clipped
  sub-is-block l =
      total_ext 16 (λ i. over (get_or p i 0) (residue (entry l) (i / 4) (i % 4))) (over_of p (idct l)) λ i h.
      let e : 4 * (i / 4) + i % 4 ≡ i = omega arith in
      ap (λ (z : ℤ). over (get_or p i 0) z)
      (sym (idct-at l (i / 4) (i % 4) (pos 0) (omega arith) (omega arith)) ∙ ap (λ (k : ℕ). get_or (idct l) k (pos 0)) e)

  -- ---- without AC coefficients
  pub dc-is-block : (dc : ℤ) → block_clipped 16 p (idct_dc dc) ≡ dc_clipped p dc
  unfolding block_clipped dc_clipped idct_dc
  dc-is-block dc =
      let v = shr_z (dc +ℤ pos 4) 8 in
      total_ext 16 (over_of p (idct_dc dc)) (λ i. over (get_or p i 0) v) λ i h.
      ap (λ (z : ℤ). over (get_or p i 0) z) (get_or-replicate 16 i v (pos 0) h)

  module _ (l : List ℤ) (z : (k : ℕ) → k < 15 → entry l (k + 1) ≡ pos 0) (f : SFits w16 (entry l 0)) where
    pub ac-free-block : block_clipped 16 p (idct l) ≡ block_clipped 16 p (idct_dc (entry l 0))
    ac-free-block = ap (λ (r : List ℤ). block_clipped 16 p r) (dc-only-is-full l z f)

    pub ac-free-dc : block_clipped 16 p (idct l) ≡ dc_clipped p (entry l 0)
    ac-free-dc = ac-free-block ∙ dc-is-block (entry l 0)

    pub ac-free-at : (at stride : ℕ) → clipped_at at stride (idct l) p ≡ clipped_at at stride (idct_dc (entry l 0)) p
    ac-free-at at stride = ap (λ (r : List ℤ). clipped_at at stride r p) (dc-only-is-full l z f)

  -- the same of a sub-block
  pub ac-free-sub : (x : ℕ → ℤ) → ((k : ℕ) → k < 15 → x (k + 1) ≡ pos 0) → SFits w16 (x 0) → sub_clipped false p x ≡ dc_clipped p (x 0)
  unfolding sub_clipped dc_clipped
  ac-free-sub x z f =
      total_ext 16 (λ i. over (get_or p i 0) (residue x (i / 4) (i % 4))) (λ i. over (get_or p i 0) (shr_z (x 0 +ℤ pos 4) 8)) λ i h.
      ap (λ (w : ℤ). over (get_or p i 0) w) (residue-dc x z f (i / 4) (i % 4))
