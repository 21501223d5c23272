-- The work buffer before sub-block k shows the given borders and the finished pixels of the sub-blocks before k.
--     border-stays     no sub-block is put on the border
--     inner-shown      a pixel of an earlier sub-block is the macroblock's
--     shown            so each pixel that sub-block k may read is the one of the rule
-- Assumes nothing.
use Prim.Native.Nat.{ℕ, zero, suc, ◌+◌, ◌-◌, ◌*◌, ◌/◌, ◌%◌, ◌<◌, ◌≤◌}
use mathlib.Core.Path.{◌≡◌, refl, sym, ap, ◌∙◌}
use mathlib.Core.Bool.{Bool}
use mathlib.Core.List.{List}
use mathlib.Core.Logic.{◌⊎◌, inl, inr, ⊎_elim}
use native.Mathlib.Omega.{arith}
use borrow.Author.Tests.{lt-ltb}
use lib.IntN.{ℤ}
use lib.ListN.{get_or}
use Rattle.lists.proofs.Turns.{turns-keep}
use Rattle.macroblock.specs.declared.modes.IntraBmode.{IntraBmode}
use Rattle.macroblock.specs.declared.neighbors.LumaEdges.{LumaEdges}
use Rattle.rfc6386.specs.Walk.{block_at, start_of, corner_of, sub_prediction, sub_pixels, sub_block, walked, y_parts}
use Rattle.rfc6386.proofs.Parts.{pixel_at, put-outside, walked-stays, start-length, parts_at}
use Rattle.walker_laws.specs.Around.{around}
use Rattle.walker_laws.proofs.Border.{Border, start-border}

-- a row and a column of 21 say the place
row-of-21 : (a b x y : ℕ) → x < 21 → y < 21 → 21 * a + x ≡ 21 * b + y → (a ≡ b) × (x ≡ y)
row-of-21 a b x y h k e = (omega arith, omega arith)

-- no pixel of a sub-block is of the border
border-apart : (r c m i : ℕ) → c ≤ 20 → i < 16 → Border r c → 21 * r + c ≡ pixel_at (corner_of m) i → ⊥
border-apart r c m i h l b e =
    let p = row-of-21 r (4 * (m / 4) + i / 4 + 1) c (4 * (m % 4) + i % 4 + 1) (omega arith) (omega arith) (omega arith) in
    ⊎_elim (λ z. omega arith) (λ t. ⊎_elim (λ z. omega arith) (λ z. omega arith) t) b

-- row r and column c of the border, or of a sub-block before k
abbrev pub Ready : ℕ → ℕ → ℕ → Type 0
Ready k r c = Border r c ⊎ ((1 ≤ r) × (1 ≤ c) × (c ≤ 16) × (4 * ((r - 1) / 4) + (c - 1) / 4 < k))

-- row r and column c of the macroblock, by its sub-block and the row and column in it
in_buffer : (a b x z : ℕ) → b < 4 → x < 4 → z < 4 → 21 * suc (4 * a + x) + suc (4 * b + z) ≡ pixel_at (corner_of (4 * a + b)) (4 * x + z)
in_buffer a b x z hb hx hz =
    let p : (4 * a + b) / 4 ≡ a = omega arith in
    let q : (4 * a + b) % 4 ≡ b = omega arith in
    let s : (4 * x + z) / 4 ≡ x = omega arith in
    let t : (4 * x + z) % 4 ≡ z = omega arith in
    rw (p, q, s, t) (omega arith)

in-plane : (a b x z : ℕ) → b < 4 → (4 * ((4 * a + b) / 4) + x) * 16 + (4 * ((4 * a + b) % 4) + z) ≡ 16 * (4 * a + x) + (4 * b + z)
in-plane a b x z hb =
    let p : (4 * a + b) / 4 ≡ a = omega arith in
    let q : (4 * a + b) % 4 ≡ b = omega arith in
    rw (p, q) (omega arith)

by-quarter : (r : ℕ) → 4 * (r / 4) + r % 4 ≡ r
by-quarter r = omega arith

module _ (modes : List IntraBmode) (skip : Bool) (n : LumaEdges) (coeffs : List ℤ) where
  -- the buffer before sub-block k, and the macroblock
  abbrev before : ℕ → List ℕ
  before k = walked k modes skip coeffs (start_of n)

  abbrev y : List ℕ
  y = y_parts modes skip n coeffs

  border-stays : (k r c : ℕ) → c ≤ 20 → Border r c → get_or (before k) (21 * r + c) 0 ≡ get_or (start_of n) (21 * r + c) 0
  unfolding walked sub_block
  border-stays k r c h b =
      turns-keep (λ (x : List ℕ). get_or x (21 * r + c) 0 ≡ get_or (start_of n) (21 * r + c) 0) k (sub_block modes skip coeffs) (start_of n)
      (λ m x e.
      put-outside (corner_of m) (sub_pixels skip (sub_prediction modes m x) (block_at coeffs 0 m)) x (21 * r + c) (λ i l q. border-apart r c m i h l b q) ∙ e)
      refl

  -- row x and column z of the sub-block in row a and column b
  sub-shown : (k a b x z : ℕ) → a < 4 → b < 4 → x < 4 → z < 4 → 4 * a + b < k
      → get_or (before k) (21 * suc (4 * a + x) + suc (4 * b + z)) 0 ≡ get_or y (16 * (4 * a + x) + (4 * b + z)) 0
  sub-shown k a b x z ha hb hx hz l =
      ap (λ (q : ℕ). get_or (before k) q 0) (in_buffer a b x z hb hx hz)
      ∙ walked-stays modes skip coeffs (4 * a + b) k (start_of n) (4 * x + z) l (omega arith) (rw (start-length n) (omega arith))
      ∙ sym (parts_at modes skip n coeffs (4 * a + b) x z (omega arith) hx hz)
      ∙ ap (λ (q : ℕ). get_or y q 0) (in-plane a b x z hb)

  inner-shown : (k r c : ℕ) → r < 16 → c < 16 → 4 * (r / 4) + c / 4 < k → get_or (before k) (21 * suc r + suc c) 0 ≡ get_or y (16 * r + c) 0
  inner-shown k r c hr hc l =
      rw (by-quarter r, by-quarter c) at (sub-shown k (r / 4) (c / 4) (r % 4) (c % 4) (omega arith) (omega arith) (omega arith) (omega arith) l)

  pub shown : (k r c : ℕ) → r ≤ 16 → c ≤ 20 → Ready k r c → get_or (before k) (21 * r + c) 0 ≡ around n y r c
  unfolding around
  shown k r c hr hc (inl b) = border-stays k r c hc b ∙ start-border n y r c hr hc b
  shown k zero c hr hc (inr i) = absurd (omega arith)
  shown k (suc r) zero hr hc (inr i) = absurd (omega arith)
  shown k (suc r) (suc c) hr hc (inr i) =
      let l : c < 16 = omega arith in
      rw (lt-ltb c 16 l) (inner-shown k r c (omega arith) l (omega arith))
