-- A plane with its count, by what the loops leave. Assumes nothing.
use Prim.Native.Nat.{ℕ}
use mathlib.Core.Bool.{true, false}
use mathlib.Core.Path.{◌≡◌, refl, ◌∙◌}
use mathlib.Core.List.{List}
use lib.IntN.{ℤ}
use lib.ListN.{length, take}
use Rattle.lists.specs.Lists.{turns, total}
use Rattle.rfc6386.specs.Wht.{iwht}
use Rattle.rfc6386.specs.Dct.{idct_four}
use Rattle.macroblock.specs.declared.modes.IntraYMode.{IntraYMode}
use Rattle.macroblock.specs.declared.neighbors.LumaEdges.{LumaEdges}
use Rattle.rfc6386.specs.Walk.{block_at, seeded, plane, y_prediction, y_whole}
use Rattle.clipping.specs.Clipped.{plane_clipped, y_whole_clipped}
use Rattle.blocks.specs.Taken.{residues_from}
use Rattle.planes.specs.Steps.{seeded_four, group_added, group_clipped, row_added, row_clipped}
use Rattle.planes.specs.Planes.{luma_coded, chroma_of, y_drawn}
use Rattle.planes.proofs.Added.{luma-added, luma-clipped, chroma-added, chroma-clipped}

luma-of : (p : List ℕ) (coeffs : List ℤ) (px : List ℕ) (n : ℕ) → px ≡ plane 16 false p (seeded coeffs) → n ≡ plane_clipped 16 false p (seeded coeffs)
    → (let r : List ℕ × ℕ = (px, n) in r ≡ luma_coded p coeffs)
unfolding luma_coded
luma-of p coeffs px n e f = rw (e, f)

pub luma-coded : (p : List ℕ) (coeffs dcs : List ℤ) (px : List ℕ) (n : ℕ) → length p ≡ 256 → dcs ≡ iwht (take 16 coeffs)
    → px ≡ turns 4 (λ k. group_added (idct_four (seeded_four coeffs dcs k)) k) p
    → n ≡ total 4 (λ k. group_clipped p (idct_four (seeded_four coeffs dcs k)) k)
    → (let r : List ℕ × ℕ = (px, n) in r ≡ luma_coded p coeffs)
unfolding plane plane_clipped
luma-coded p coeffs dcs px n h d e f =
    luma-of p coeffs px n (e ∙ rw d (luma-added coeffs p h)) (f ∙ rw d (luma-clipped coeffs p))

pub chroma-skipped : (p : List ℕ) (coeffs : List ℤ) (base : ℕ)
    → (let r : List ℕ × ℕ = (p, 0) in r ≡ chroma_of p true coeffs base)
unfolding chroma_of plane plane_clipped
chroma-skipped p coeffs base = refl

chroma-of : (p : List ℕ) (coeffs : List ℤ) (base : ℕ) (px : List ℕ) (n : ℕ) → px ≡ plane 8 false p (block_at coeffs base)
    → n ≡ plane_clipped 8 false p (block_at coeffs base)
    → (let r : List ℕ × ℕ = (px, n) in r ≡ chroma_of p false coeffs base)
unfolding chroma_of
chroma-of p coeffs base px n e f = rw (e, f)

pub chroma-coded : (p : List ℕ) (coeffs o : List ℤ) (base : ℕ) (px : List ℕ) (n : ℕ) → length p ≡ 64 → o ≡ residues_from coeffs base
    → px ≡ turns 8 (row_added o) p → n ≡ total 8 (row_clipped p o)
    → (let r : List ℕ × ℕ = (px, n) in r ≡ chroma_of p false coeffs base)
unfolding plane plane_clipped
chroma-coded p coeffs o base px n h d e f =
    chroma-of p coeffs base px n (e ∙ rw d (chroma-added coeffs p base h)) (f ∙ rw d (chroma-clipped coeffs p base))

pub y-skipped : (mode : IntraYMode) (n : LumaEdges) (coeffs : List ℤ) (p : List ℕ) → p ≡ y_prediction mode n
    → (let r : List ℕ × ℕ = (p, 0) in r ≡ y_drawn mode true n coeffs)
unfolding y_drawn y_whole y_whole_clipped plane plane_clipped
y-skipped mode n coeffs p e = rw e

pub y-coded : (mode : IntraYMode) (n : LumaEdges) (coeffs : List ℤ) (p : List ℕ) (r : List ℕ × ℕ) → p ≡ y_prediction mode n → r ≡ luma_coded p coeffs
    → r ≡ y_drawn mode false n coeffs
unfolding y_drawn y_whole y_whole_clipped luma_coded
y-coded mode n coeffs p r e d = d ∙ rw e refl
