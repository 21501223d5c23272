-- The plane after `inverse_dct_4x4_add_into`, byte by byte: each pixel of the block is the sum of what it was and its residue, every other byte is as it was,
-- and without AC coefficients the residue is the first coefficient's alone. Assumes nothing.
use mathlib.Core.Bool.{Bool, true, false}
use mathlib.Core.List.{List}
use mathlib.Core.Path.{◌≡◌, refl, sym, ap, ◌∙◌}
use Prim.Native.Nat.{ℕ, ◌+◌, ◌*◌, ◌/◌, ◌%◌, ◌<◌, ◌≤◌}
use native.Mathlib.Decide.{dec_lt}
use native.Mathlib.Nat.{add-mul, mul-le-mul_right}
use native.Mathlib.Omega.{arith}
use lib.IntN.{ℤ, pos}
use lib.ListN.{length, get_or}
use mir.Syntax.{w16}
use mir.Val.{SFits}
use Rattle.lists.specs.Lists.{pick}
use Rattle.lists.proofs.Updates.{updates-length, updates-outside, updates-inside}
use Rattle.lists.proofs.Rows.{row_within}
use Rattle.rfc6386.specs.Dct.{entry, idct, idct_dc}
use Rattle.rfc6386.specs.Residue.{sum, lies, added_at}
use Rattle.rfc6386.proofs.DctDc.{dc-only-is-full}
use Rattle.residue.specs.Answer.{added_into}
use Rattle.residue.proofs.Geometry.{lies_says}

-- ---- the sixteen places of a block whose first pixel is at `at` differ, at a stride of 4 or more
abbrev place : ℕ → ℕ → ℕ → ℕ
place at s k = at + (k / 4 * s + k % 4)

before : (s a b : ℕ) → 4 ≤ s → a / 4 < b / 4 → a / 4 * s + a % 4 ≡ b / 4 * s + b % 4 → ⊥
before s a b h p e = let q = row_within s (b / 4) (a / 4) p in omega arith

apart : (at s a b : ℕ) → 4 ≤ s → place at s a ≡ place at s b → a ≡ b
apart at s a b h e = by (dec_lt (a / 4) (b / 4)) (dec_lt (b / 4) (a / 4))
  where
    f : a / 4 * s + a % 4 ≡ b / 4 * s + b % 4
    f = omega arith

    by : Dec (a / 4 < b / 4) → Dec (b / 4 < a / 4) → a ≡ b
    by (yes p) q = absurd (before s a b h p f)
    by (no p) (yes q) = absurd (before s b a h q (sym f))
    by (no p) (no q) =
        let g : a / 4 ≡ b / 4 = omega arith in
        let i : a / 4 * s ≡ b / 4 * s = ap (λ (t : ℕ). t * s) g in
        omega arith

-- ---- the block of sub-block row r and column c
module _ (s r c : ℕ) where
  abbrev at : ℕ
  at = 4 * r * s + 4 * c

  -- pixel y, x of the block
  abbrev pub pixel_at : ℕ → ℕ → ℕ
  pixel_at y x = (4 * r + y) * s + 4 * c + x

  pixel-place : (y x : ℕ) → x < 4 → pixel_at y x ≡ place at s (4 * y + x)
  pixel-place y x h =
      let p : (4 * y + x) / 4 ≡ y = omega arith in
      let q : (4 * y + x) % 4 ≡ x = omega arith in
      rw (p, q) (omega (arith, add-mul (4 * r) y s))

  place-pixel : (k : ℕ) → place at s k ≡ pixel_at (k / 4) (k % 4)
  place-pixel k = omega (arith, add-mul (4 * r) (k / 4) s)

  module _ (input : List ℤ) (l : List ℕ) where
    abbrev make : ℕ → ℕ → ℕ
    make k x = sum x (get_or (idct input) k (pos 0))

    added-or-not : (P : List ℕ → Type 0) → (lies (length l) s r c ≡ true → P (added_at at s (idct input) l)) → P l → P (added_into input s r c l)
    unfolding added_into
    added-or-not P f p = by (lies (length l) s r c) f
      where
        by : (b : Bool) → (b ≡ true → P (added_at at s (idct input) l)) → P (pick b (added_at at s (idct input) l) l)
        by true g = g refl
        by false g = p

    pub length-kept : length (added_into input s r c l) ≡ length l
    unfolding added_at
    length-kept = added-or-not (λ m. length m ≡ length l) (λ e. updates-length 0 (place at s) make 16 l) refl

    pub outside_kept : (j : ℕ) → ((y x : ℕ) → y < 4 → x < 4 → j ≡ pixel_at y x → ⊥) → get_or (added_into input s r c l) j 0 ≡ get_or l j 0
    unfolding added_at
    outside_kept j h =
        added-or-not (λ m. get_or m j 0 ≡ get_or l j 0)
        (λ e. updates-outside 0 (place at s) make 16 l j (λ k p q. h (k / 4) (k % 4) (omega arith) (omega arith) (q ∙ place-pixel k)))
        refl

    module _ (in-plane : lies (length l) s r c ≡ true) where
      added : added_into input s r c l ≡ added_at at s (idct input) l
      unfolding added_into
      added = rw in-plane

      pub block-summed : (y x : ℕ) → y < 4 → x < 4
          → get_or (added_into input s r c l) (pixel_at y x) 0 ≡ sum (get_or l (pixel_at y x) 0) (get_or (idct input) (4 * y + x) (pos 0))
      unfolding added_at
      block-summed y x p q =
          let h = lies_says (length l) s r c in-plane in
          let w : (4 * r + y) * s ≤ (4 * r + 3) * s = mul-le-mul_right s (omega arith) in
          let i : pixel_at y x < length l = omega arith in
          rw (added, pixel-place y x q)
          (updates-inside 0 (place at s) make 16 l (4 * y + x) (λ a b g k e. apart at s a b (omega arith) e) (omega arith) (rw (pixel-place y x q) at i))

      -- without AC coefficients: the DC-only add is the full one
      pub dc-only-add-is-full : ((k : ℕ) → k < 15 → entry input (k + 1) ≡ pos 0) → SFits w16 (entry input 0)
          → added_into input s r c l ≡ added_at at s (idct_dc (entry input 0)) l
      dc-only-add-is-full z f = added ∙ ap (λ (m : List ℤ). added_at at s m l) (dc-only-is-full input z f)
