-- A block scaled in place is its sixteen turns; the three runs of blocks are the macroblock's 25, and each coefficient is the RFC's.
-- Assumes nothing.
use mathlib.Core.Path.{◌≡◌, sym, ap, ◌∙◌}
use mathlib.Core.List.{List}
use Prim.Native.Nat.{ℕ, ◌+◌, ◌*◌, ◌<◌}
use native.Mathlib.Nat.{add-zero, zero-add}
use native.Mathlib.Omega.{arith}
use borrow.Author.Tests.{eq-eqb, ne_eqb, lt-ltb, le-ltb}
use lib.Dec.{eqb, lit<}
use lib.IntN.{ℤ, pos}
use lib.ListN.{length, get_or, set}
use lib.Signed.{mag}
use Rattle.lists.specs.Lists.{turns, pick}
use Rattle.lists.proofs.Nested.{turns-add, turns-ext}
use Rattle.lists.proofs.Each.{rows-each}
use Rattle.whole.proofs.Held.{R16}
use Rattle.quantiser.proofs.Read.{product-read}
use Rattle.rfc6386.specs.Quantiser.{dequant}
use Rattle.rfc6386.specs.MbFactors.{of_block, blocks_dequantised}
use Rattle.mb_factors.specs.Factors.{FactorsAnswer}
use Rattle.dequant.specs.Answers.{dc_of, ac_of, mb_dequantised}
use Rattle.dequant.specs.Turns.{coefficient, block_scaled, blocks_scaled}

module _ (dc ac : ℤ) (k : ℕ) where
  -- a turn after the first
  abbrev pub later : ℕ → List ℤ → List ℤ
  later i = coefficient dc ac k (1 + i)

  by-ac : (i : ℕ) → pick (eqb (1 + i) 0) dc ac ≡ ac
  by-ac i = rw (ne_eqb (1 + i) 0 (λ e. omega arith))

  pub later-turn : (i : ℕ) (l : List ℤ) (r : ℤ) → mag r < 32768
      → R16 (get_or l (k * 16 + (1 + i)) (pos 0)) ≡ get_or l (k * 16 + (1 + i)) (pos 0) → r ≡ dequant (R16 (get_or l (k * 16 + (1 + i)) (pos 0))) ac → set l (k * 16 + (1 + i)) (R16 r) ≡ later i l
  later-turn i l r h g e =
      let x = get_or l (k * 16 + (1 + i)) (pos 0) in
      ap (λ (v : ℤ). set l (k * 16 + (1 + i)) v) (product-read r x ac h g e ∙ ap (λ (f : ℤ). dequant x f) (sym (by-ac i)))

  pub block-done : (l xs : List ℤ) (r : ℤ) → mag r < 32768 → R16 (get_or l (k * 16) (pos 0)) ≡ get_or l (k * 16) (pos 0) → r ≡ dequant (R16 (get_or l (k * 16) (pos 0))) dc
      → xs ≡ turns 15 later (set l (k * 16) (R16 r)) → xs ≡ block_scaled dc ac k l
  unfolding block_scaled turns
  block-done l xs r h g e q =
      q ∙ ap (λ (m : List ℤ). turns 15 later m) (first ∙ sym zeroth) ∙ sym (turns-add 1 15 (coefficient dc ac k) l)
    where
      first : set l (k * 16) (R16 r) ≡ set l (k * 16) (dequant (get_or l (k * 16) (pos 0)) dc)
      first = ap (λ (v : ℤ). set l (k * 16) v) (product-read r (get_or l (k * 16) (pos 0)) dc h g e)

      zeroth : coefficient dc ac k 0 l ≡ set l (k * 16) (dequant (get_or l (k * 16) (pos 0)) dc)
      zeroth = rw add-zero

-- ---- which blocks are whose
module _ (y2 y1 uv : ℤ) (k : ℕ) where
  of-y2 : k < 1 → of_block (0 + k) y2 y1 uv ≡ y2
  unfolding of_block
  of-y2 h = rw (eq-eqb (0 + k) 0 (omega arith))

  of-y1 : k < 16 → of_block (1 + k) y2 y1 uv ≡ y1
  unfolding of_block
  of-y1 h = rw (ne_eqb (1 + k) 0 (λ e. omega arith), lt-ltb (1 + k) 17 (omega arith))

  of-uv : of_block (17 + k) y2 y1 uv ≡ uv
  unfolding of_block
  of-uv = rw (ne_eqb (17 + k) 0 (λ e. omega arith), le-ltb (17 + k) 17 (omega arith))

module _ (f : FactorsAnswer) where
  -- block k by its own factors
  abbrev own : ℕ → List ℤ → List ℤ
  own k = block_scaled (dc_of f k) (ac_of f k) k

  -- a run of blocks of one kind
  run : (dc ac : ℤ) (first n : ℕ) (l : List ℤ) → ((k : ℕ) → k < n → (dc_of f (first + k) ≡ dc) × (ac_of f (first + k) ≡ ac))
      → blocks_scaled dc ac first n l ≡ turns n (λ k. own (first + k)) l
  unfolding blocks_scaled
  run dc ac first n l h = turns-ext n _ _ l (λ k y p. rw ((h k p).0, (h k p).1))

  three : (l : List ℤ)
      → blocks_scaled f.uv_dc f.uv_ac 17 8 (blocks_scaled f.y1_dc f.y1_ac 1 16 (blocks_scaled f.y2_dc f.y2_ac 0 1 l)) ≡ turns 25 own l
  unfolding dc_of ac_of
  three l =
      run f.uv_dc f.uv_ac 17 8 _ (λ k p. (of-uv _ _ _ k, of-uv _ _ _ k))
      ∙ ap (λ (m : List ℤ). turns 8 (λ k. own (17 + k)) m)
      (run f.y1_dc f.y1_ac 1 16 _ (λ k p. (of-y1 _ _ _ k p, of-y1 _ _ _ k p))
      ∙ ap (λ (m : List ℤ). turns 16 (λ k. own (1 + k)) m)
      (run f.y2_dc f.y2_ac 0 1 l (λ k p. (of-y2 _ _ _ k p, of-y2 _ _ _ k p)) ∙ turns-ext 1 _ _ l (λ k y p. rw zero-add))
      ∙ sym (turns-add 1 16 own l))
      ∙ sym (turns-add 17 8 own l)

  pub all_blocks : (l x y z : List ℤ) → length l ≡ 400 → x ≡ blocks_scaled f.y2_dc f.y2_ac 0 1 l → y ≡ blocks_scaled f.y1_dc f.y1_ac 1 16 x
      → z ≡ blocks_scaled f.uv_dc f.uv_ac 17 8 y → z ≡ mb_dequantised f l
  unfolding mb_dequantised blocks_dequantised block_scaled
  all_blocks l x y z h p q r =
      r ∙ rw (q, p) (three l) ∙ rows-each (pos 0) 16 25 (λ k i v. dequant v (pick (eqb i 0) (dc_of f k) (ac_of f k))) l (lit< tt) h
