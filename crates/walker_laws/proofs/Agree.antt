-- Two macroblocks that meet the rule of luma mode B with the same modes, skip flag and edges agree in every sub-block of a closed set in which their
-- coefficients agree.
--     around-agree    a pixel around a sub-block, where the sub-block that it stands in is the same
--     ruled-agree     the sub-blocks of a closed set
--     ruled-once      so the rule has one answer only
-- Assumes nothing.
use Prim.Native.Nat.{ℕ, zero, suc, ◌+◌, ◌*◌, ◌/◌, ◌%◌, ◌<◌}
use mathlib.Core.Path.{◌≡◌, refl, sym, ap, subst, ◌∙◌}
use mathlib.Core.Bool.{Bool, true, false}
use mathlib.Core.List.{List}
use mathlib.Core.Logic.{⊎_elim}
use native.Mathlib.Omega.{arith}
use borrow.Author.Tests.{lt-ltb, le-ltb}
use lib.IntN.{ℤ}
use lib.ListN.{length, get_or}
use lib.Seq.{ext_get_or}
use Rattle.lists.proofs.Table.{table_at, table-ext}
use Rattle.macroblock.specs.declared.modes.IntraBmode.{IntraBmode}
use Rattle.macroblock.specs.declared.neighbors.LumaEdges.{LumaEdges}
use Rattle.rfc6386.specs.Residue.{sum}
use Rattle.rfc6386.specs.Walk.{block_at, sub_pixels}
use Rattle.rfc6386.proofs.DctBlocks.{residue-ext}
use Rattle.walker_laws.specs.Around.{around, row_above, column_left, column, row, above_sub, left_sub, corner_sub, predict_sub, place_in, sub_of, Ruled}
use Rattle.walker_laws.specs.Moves.{Closed}
use Rattle.walker_laws.proofs.Laid.{below}

-- ---- the pixels of a sub-block depend on its sixteen coefficients only
pub pixels-ext : (skip : Bool) (p : List ℕ) (x y : ℕ → ℤ) → ((i : ℕ) → i < 16 → x i ≡ y i) → sub_pixels skip p x ≡ sub_pixels skip p y
unfolding sub_pixels
pixels-ext true p x y e = refl
pixels-ext false p x y e = table-ext 16 _ _ λ i l. ap (λ (z : ℤ). sum (get_or p i 0) z) (residue-ext x y e (i / 4) (i % 4))

-- ---- the pixel in row x and column z of the sub-block in row a and column b
place_is : (a b x z : ℕ) → b < 4 → z < 4 → place_in (4 * a + b) (4 * x + z) ≡ 16 * (4 * a + x) + (4 * b + z)
place_is a b x z hb hz =
    let p : (4 * a + b) / 4 ≡ a = omega arith in
    let q : (4 * a + b) % 4 ≡ b = omega arith in
    let s : (4 * x + z) / 4 ≡ x = omega arith in
    let t : (4 * x + z) % 4 ≡ z = omega arith in
    rw (p, q, s, t)

pub pixel-in : (y : List ℕ) (a b x z : ℕ) → b < 4 → x < 4 → z < 4 → get_or (sub_of y (4 * a + b)) (4 * x + z) 0 ≡ get_or y (16 * (4 * a + x) + (4 * b + z)) 0
unfolding sub_of
pixel-in y a b x z hb hx hz =
    table_at 16 (λ i. get_or y (place_in (4 * a + b) i) 0) (4 * x + z) 0 (omega arith) ∙ ap (λ (q : ℕ). get_or y q 0) (place_is a b x z hb hz)

by-quarter : (k : ℕ) → 4 * (k / 4) + k % 4 ≡ k
by-quarter k = omega arith

module _ (n : LumaEdges) (y z : List ℕ) where
  -- the sub-block in row a and column b is the same in both
  abbrev pub Same : ℕ → ℕ → Type 0
  Same a b = sub_of y (4 * a + b) ≡ sub_of z (4 * a + b)

  pub pixel-same : (r c : ℕ) → c < 16 → Same (r / 4) (c / 4) → get_or y (16 * r + c) 0 ≡ get_or z (16 * r + c) 0
  pixel-same r c h e =
      let p = pixel-in y (r / 4) (c / 4) (r % 4) (c % 4) (omega arith) (omega arith) (omega arith) in
      let q = pixel-in z (r / 4) (c / 4) (r % 4) (c % 4) (omega arith) (omega arith) (omega arith) in
      rw (by-quarter r, by-quarter c) at (sym p ∙ ap (λ (l : List ℕ). get_or l (4 * (r % 4) + c % 4) 0) e ∙ q)

  -- at row r and column c of the macroblock with its border
  pub around-agree : (r c : ℕ) → ((i j : ℕ) → r ≡ suc i → c ≡ suc j → j < 16 → Same (i / 4) (j / 4)) → around n y r c ≡ around n z r c
  unfolding around
  around-agree zero c s = refl
  around-agree (suc r) zero s = refl
  around-agree (suc r) (suc c) s =
      ⊎_elim (λ l. rw (lt-ltb c 16 l) (pixel-same r c l (s r c refl refl l))) (λ l. rw (le-ltb c 16 l)) (below c 16)

-- ---- a closed set P of sub-blocks, and the sub-block in its row a and column b; those of P before it are the same
module _ (n : LumaEdges) (y z : List ℕ) (P : ℕ → ℕ → Type 0) (closed : Closed P) (a b : ℕ) (hb : b < 4) (here : P a b)
    (earlier : (r c : ℕ) → c < 4 → 4 * r + c < 4 * a + b → P r c → Same n y z r c) where
  -- the place itself, by the row above it and by the column to its left
  in_row : (r : ℕ) → a ≡ suc r → P (suc r) b
  in_row r e = subst (λ (x : ℕ). P x b) e here

  in-column : (c : ℕ) → b ≡ suc c → P a (suc c)
  in-column c e = subst (λ (x : ℕ). P a x) e here

  in_both : (r c : ℕ) → a ≡ suc r → b ≡ suc c → P (suc r) (suc c)
  in_both r c e f = subst (λ (x : ℕ). P (suc r) x) f (in_row r e)

  -- its raster index
  abbrev k : ℕ
  k = 4 * a + b

  above-agree : (i : ℕ) → i < 8 → around n y (row_above k) (column k i) ≡ around n z (row_above k) (column k i)
  above-agree i l =
      around-agree n y z (row_above k) (column k i)
      (λ p q e f h.
      let u : a ≡ suc (p / 4) = omega arith in
      ⊎_elim
      (λ s. let v : q / 4 ≡ b = omega arith in rw v (earlier (p / 4) b hb (omega arith) (closed.above (p / 4) b (in_row (p / 4) u))))
      (λ s. let v : q / 4 ≡ suc b = omega arith in rw v (earlier (p / 4) (suc b) (omega arith) (omega arith) (closed.above-right (p / 4) b (in_row (p / 4) u))))
      (below i 4))

  left-agree : (i : ℕ) → i < 4 → around n y (row k i) (column_left k) ≡ around n z (row k i) (column_left k)
  left-agree i l =
      around-agree n y z (row k i) (column_left k)
      (λ p q e f h.
      let u : p / 4 ≡ a = omega arith in
      let v : b ≡ suc (q / 4) = omega arith in
      rw u (earlier a (q / 4) (omega arith) (omega arith) (closed.left a (q / 4) (in-column (q / 4) v))))

  corner-agree : around n y (row_above k) (column_left k) ≡ around n z (row_above k) (column_left k)
  corner-agree =
      around-agree n y z (row_above k) (column_left k)
      (λ p q e f h.
      let u : a ≡ suc (p / 4) = omega arith in
      let v : b ≡ suc (q / 4) = omega arith in
      earlier (p / 4) (q / 4) (omega arith) (omega arith) (closed.above-left (p / 4) (q / 4) (in_both (p / 4) (q / 4) u v)))

  pub predict-agree : (modes : List IntraBmode) → predict_sub modes n y k ≡ predict_sub modes n z k
  unfolding predict_sub above_sub left_sub corner_sub
  predict-agree modes = rw (table-ext 8 _ _ above-agree, table-ext 4 _ _ left-agree, corner-agree)

-- ---- two macroblocks that meet the rule
module _ (modes : List IntraBmode) (skip : Bool) (n : LumaEdges) (c d : List ℤ) (y z : List ℕ) (one : Ruled modes skip n c y) (two : Ruled modes skip n d z)
    (P : ℕ → ℕ → Type 0) (closed : Closed P)
    (given : (a b : ℕ) → b < 4 → P a b → (i : ℕ) → i < 16 → block_at c 0 (4 * a + b) i ≡ block_at d 0 (4 * a + b) i) where
  so_far : (m a b : ℕ) → a < 4 → b < 4 → 4 * a + b < m → P a b → Same n y z a b
  so_far zero a b ha hb l p = absurd (omega arith)
  so_far (suc m) a b ha hb l p =
      one (4 * a + b) (omega arith)
      ∙ ap (λ (x : List ℕ). sub_pixels skip x (block_at c 0 (4 * a + b)))
      (predict-agree n y z P closed a b hb p (λ r s h k q. so_far m r s (omega arith) h (omega arith) q) modes)
      ∙ pixels-ext skip (predict_sub modes n z (4 * a + b)) (block_at c 0 (4 * a + b)) (block_at d 0 (4 * a + b)) (given a b hb p)
      ∙ sym (two (4 * a + b) (omega arith))

  pub ruled-agree : (a b : ℕ) → a < 4 → b < 4 → P a b → sub_of y (4 * a + b) ≡ sub_of z (4 * a + b)
  ruled-agree a b ha hb p = so_far 16 a b ha hb (omega arith) p

-- ---- all sub-blocks: the rule has one answer only
everywhere : Closed (λ r c. Unit {0})
everywhere = record { left = λ r c p. p; above-left = λ r c p. p; above = λ r c p. p; above-right = λ r c p. p }

by-sixteen : (i : ℕ) → 16 * (i / 16) + i % 16 ≡ i
by-sixteen i = omega arith

pub ruled-once : (modes : List IntraBmode) (skip : Bool) (n : LumaEdges) (c : List ℤ) (y z : List ℕ) → length y ≡ 256 → length z ≡ 256
    → Ruled modes skip n c y → Ruled modes skip n c z → y ≡ z
ruled-once modes skip n c y z k l one two =
    ext_get_or 0 y z (k ∙ sym l)
    (λ i h.
    let q : i < 256 = rw k at h in
    rw (by-sixteen i)
    at (pixel-same n y z (i / 16) (i % 16) (omega arith)
    (ruled-agree modes skip n c c y z one two (λ r c. Unit {0}) everywhere (λ a b h p i l. refl) (i / 16 / 4) (i % 16 / 4) (omega arith) (omega arith) tt)))
