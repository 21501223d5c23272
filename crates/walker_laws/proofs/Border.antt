-- The work buffer as a walk finds it shows the given borders: its row 0, its column 0, and right of the macroblock its rows 4, 8 and 12.
--     start-border    the pixel at row r and column c of the buffer, where it is of the border
-- Assumes nothing.
use Prim.Native.Nat.{ℕ, zero, suc, ◌+◌, ◌-◌, ◌*◌, ◌/◌, ◌%◌, ◌<◌, ◌≤◌}
use mathlib.Core.Path.{◌≡◌, refl, ap, ◌∙◌}
use mathlib.Core.Bool.{Bool, true, false}
use mathlib.Core.List.{List}
use mathlib.Core.Logic.{◌⊎◌, inl, inr}
use native.Mathlib.Omega.{arith}
use borrow.Author.Tests.{le-ltb}
use lib.ListN.{get_or, get_or-replicate}
use Rattle.lists.proofs.Table.{table_at}
use Rattle.macroblock.specs.declared.neighbors.LumaEdges.{LumaEdges}
use Rattle.rfc6386.specs.Edges.{edge_or, pixel_or, left_or}
use Rattle.rfc6386.specs.Walk.{row_or, start_of}
use Rattle.walker_laws.specs.Around.{in_row, around}
use Rattle.walker_laws.proofs.Laid.{row_at, column-at, copy_at}

-- ---- an edge's pixel, or its default
edge_at : (n v : ℕ) (pixels : List ℕ) (there : Bool) (i : ℕ) → i < n → get_or (edge_or n v pixels there) i 0 ≡ pixel_or v (get_or pixels i 0) there
unfolding edge_or pixel_or
edge_at n v pixels true i l = refl
edge_at n v pixels false i l = get_or-replicate n i v 0 l

left_at : (n : ℕ) (pixels : List ℕ) (there : Bool) (i : ℕ) → i < n → get_or (left_or n pixels there) i 0 ≡ pixel_or 129 (get_or pixels i 0) there
unfolding left_or
left_at n pixels there i l = edge_at n 129 pixels there i l

-- ---- a pixel of the border: in row 0, in column 0, or right of the macroblock in a row that a sub-block reads
abbrev pub Border : ℕ → ℕ → Type 0
Border r c = (r ≡ 0) ⊎ ((c ≡ 0) ⊎ ((17 ≤ c) × (r % 4 ≡ 0) × (r < 16)))

-- ---- the borders of a macroblock, at row r and column c of 17 rows of 21; y is the macroblock, of which nothing is read here
module _ (e : LumaEdges) (y : List ℕ) where
  abbrev l : List ℕ
  l = left_or 16 e.left e.left_there

  row_is : (c : ℕ) → c < 21 → get_or (row_or e) c 0 ≡ in_row e c
  unfolding row_or
  row_is c h = table_at 21 (λ i. in_row e i) c 0 h

  start-row : (c : ℕ) → c < 21 → get_or (start_of e) c 0 ≡ around e y 0 c
  unfolding start_of around
  start-row c h = row_at (row_or e) l c h ∙ row_is c h

  start_left : (r : ℕ) → r < 16 → get_or (start_of e) (21 * suc r) 0 ≡ around e y (suc r) 0
  unfolding start_of around
  start_left r h =
      ap (λ (q : ℕ). get_or (start_of e) q 0) (omega arith) ∙ column-at (row_or e) l r h ∙ left_at 16 e.left e.left_there r h

  start-copy : (r c : ℕ) → suc r % 4 ≡ 0 → r < 15 → 16 ≤ c → c < 20 → get_or (start_of e) (21 * suc r + suc c) 0 ≡ around e y (suc r) (suc c)
  unfolding start_of around
  start-copy r c d f g h =
      rw (le-ltb c 16 g)
      (ap (λ (q : ℕ). get_or (start_of e) q 0) (omega arith) ∙ copy_at (row_or e) l (r / 4) (c - 16) (omega arith) (omega arith)
      ∙ ap (λ (q : ℕ). get_or (row_or e) q 0) (omega arith) ∙ row_is (suc c) (omega arith))

  pub start-border : (r c : ℕ) → r ≤ 16 → c ≤ 20 → Border r c → get_or (start_of e) (21 * r + c) 0 ≡ around e y r c
  start-border zero c h g b = ap (λ (q : ℕ). get_or (start_of e) q 0) (omega arith) ∙ start-row c (omega arith)
  start-border (suc r) zero h g b = ap (λ (q : ℕ). get_or (start_of e) q 0) (omega arith) ∙ start_left r (omega arith)
  start-border (suc r) (suc c) h g (inl b) = absurd (omega arith)
  start-border (suc r) (suc c) h g (inr (inl b)) = absurd (omega arith)
  start-border (suc r) (suc c) h g (inr (inr b)) = start-copy r c b.1 (omega arith) (omega arith) (omega arith)
