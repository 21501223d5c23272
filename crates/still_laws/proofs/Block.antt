-- What stands where once a block of n rows of n is in its place.
--     placed-length     the plane keeps its length
--     placed-outside    a place that is none of the block's keeps what it had
--     placed-inside     a place of the block's has the block's pixel
-- Assumes nothing.
use Prim.Native.Nat.{ℕ, suc, ◌+◌, ◌*◌, ◌<◌}
use mathlib.Core.Path.{◌≡◌, refl, ◌∙◌}
use mathlib.Core.List.{List}
use native.Mathlib.Omega.{arith}
use lib.ListN.{length, get_or}
use Rattle.lists.specs.Lists.{turns}
use Rattle.lists.proofs.Turns.{turns-keep}
use Rattle.lists.proofs.Updates.{updates-length, updates-outside, updates-inside}
use Rattle.canvas.specs.Placed.{pixel_at, placed_row, placed}
use Rattle.still_laws.proofs.Settled.{turns-settled}
use Rattle.still_laws.proofs.Digits.{pixel-apart}

module _ (n w c r : ℕ) (block : List ℕ) where
  row-length : (i : ℕ) (plane : List ℕ) → length (placed_row n w c r block i plane) ≡ length plane
  unfolding placed_row
  row-length i plane = updates-length 0 (λ x. pixel_at n w c r i x) (λ x _. get_or block (n * i + x) 0) n plane

  rows-length : (m : ℕ) (plane : List ℕ) → length (turns m (placed_row n w c r block) plane) ≡ length plane
  rows-length m plane =
      turns-keep (λ l. length l ≡ length plane) m (placed_row n w c r block) plane (λ i l e. row-length i l ∙ e) refl

  pub placed-length : (plane : List ℕ) → length (placed n w c r block plane) ≡ length plane
  unfolding placed
  placed-length plane = rows-length n plane

  row-outside : (i : ℕ) (plane : List ℕ) (q : ℕ) → ((x : ℕ) → x < n → q ≡ pixel_at n w c r i x → ⊥)
      → get_or (placed_row n w c r block i plane) q 0 ≡ get_or plane q 0
  unfolding placed_row
  row-outside i plane q h = updates-outside 0 (λ x. pixel_at n w c r i x) (λ x _. get_or block (n * i + x) 0) n plane q h

  pub placed-outside : (plane : List ℕ) (q : ℕ) → ((i x : ℕ) → i < n → x < n → q ≡ pixel_at n w c r i x → ⊥)
      → get_or (placed n w c r block plane) q 0 ≡ get_or plane q 0
  unfolding placed turns
  placed-outside plane q h =
      turns-settled (λ (l : List ℕ). get_or l q 0) (placed_row n w c r block) plane 0 n (omega arith)
      (λ i a b. row-outside i (turns i (placed_row n w c r block) plane) q (λ x k. h i x b k))

  module _ (hc : c < w) (i x : ℕ) (hi : i < n) (hx : x < n) where
    row_inside : (plane : List ℕ) → pixel_at n w c r i x < length plane
        → get_or (placed_row n w c r block i plane) (pixel_at n w c r i x) 0 ≡ get_or block (n * i + x) 0
    unfolding placed_row
    row_inside plane l =
        updates-inside 0 (λ x. pixel_at n w c r i x) (λ x _. get_or block (n * i + x) 0) n plane x
        (λ j z hj hz e. (pixel-apart n w c r i j c r i z hc hi hj hc hi hz e).3) hx l

    pub placed-inside : (plane : List ℕ) → pixel_at n w c r i x < length plane
        → get_or (placed n w c r block plane) (pixel_at n w c r i x) 0 ≡ get_or block (n * i + x) 0
    unfolding placed turns
    placed-inside plane l =
        turns-settled (λ (l : List ℕ). get_or l (pixel_at n w c r i x) 0) (placed_row n w c r block) plane (suc i) n hi
        (λ j a b. row-outside j (turns j (placed_row n w c r block) plane) (pixel_at n w c r i x)
        (λ z hz e. let s : i ≡ j = (pixel-apart n w c r i x c r j z hc hi hx hc b hz e).1 in omega arith))
        ∙ row_inside (turns i (placed_row n w c r block) plane) (rw (rows-length i plane) l)
