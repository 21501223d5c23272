-- Demand 3: each pixel, scaled by 2^35, is less than 13 * 2^32 away from the exact one: the clamp of 2^35 times the prediction, plus T.
--     plain-pixel      in whole numbers without bound, for every block
--     demand3-pixel    as the machine makes it, for every block of coefficients from -8191 to 8191
--     dropped-above, dropped-below    the prediction alone does not meet it where the exact residue is 13/8 of a level or more, with room up or down
-- Assumes nothing.
use Prim.Native.Nat.{ℕ, ◌+◌, ◌-◌, ◌*◌, ◌^◌, ◌≤◌}
use mathlib.Core.Path.{◌≡◌}
use native.Mathlib.Nat.{min-le_left}
use native.Mathlib.Omega.{arith}
use lib.IntN.{ℤ, pos, ◌+ℤ◌, ◌*ℤ◌}
use lib.Signed.{◌≤ℤ◌}
use Rattle.whole.specs.Whole.{clamp_to}
use Rattle.whole.proofs.Linear.{split, split2, linear}
use Rattle.whole.proofs.Range.{Small}
use Rattle.whole.proofs.Clamp.{clamp-in, clamp-near, clamp-scale}
use Rattle.rfc6386.specs.Dct.{residue, residue_plain, T}
use Rattle.rfc6386.specs.Residue.{sum}
use Rattle.rfc6386.specs.Exact.{Within, exact_pixel}
use Rattle.rfc6386.proofs.DctNear.{Near, near-residue}
use Rattle.rfc6386.proofs.DctRange.{residue-plain}

pub plain-pixel : (x : ℕ → ℤ) (r c p : ℕ) → Within (13 * 2 ^ 32) (2 ^ 35 * clamp_to 255 (pos p +ℤ residue_plain x r c)) (exact_pixel x r c p)
plain-pixel x r c p = at (T x r c) (residue_plain x r c) (near-residue x r c)
  where
    up : (p : ℕ) (F q : ℤ) → Near 34359738368 55834574847 55834574847 F q
        → (pos 34359738368 *ℤ (pos p +ℤ q)) ≤ℤ (pos (34359738368 * p) +ℤ F +ℤ pos 55834574847)
    up p = split2 _ λ _ _ _ _. simp linear (omega arith)

    down : (p : ℕ) (F q : ℤ) → Near 34359738368 55834574847 55834574847 F q
        → (pos (34359738368 * p) +ℤ F) ≤ℤ (pos 34359738368 *ℤ (pos p +ℤ q) +ℤ pos 55834574847)
    down p = split2 _ λ _ _ _ _. simp linear (omega arith)

    at : (F q : ℤ) → Near 34359738368 55834574847 55834574847 F q
        → Within (13 * 2 ^ 32) (2 ^ 35 * clamp_to 255 (pos p +ℤ q)) (clamp_to (2 ^ 35 * 255) (pos (2 ^ 35 * p) +ℤ F))
    at F q n =
        omega (
          arith,
          clamp-scale 34359738368 255 (pos p +ℤ q),
          clamp-near (34359738368 * 255) 55834574847 (pos 34359738368 *ℤ (pos p +ℤ q)) (pos (34359738368 * p) +ℤ F) (up p F q n),
          clamp-near (34359738368 * 255) 55834574847 (pos (34359738368 * p) +ℤ F) (pos 34359738368 *ℤ (pos p +ℤ q)) (down p F q n),
        )

pub demand3-pixel : (x : ℕ → ℤ) → ((k : ℕ) → Small 8191 (x k)) → (r c p : ℕ)
    → Within (13 * 2 ^ 32) (2 ^ 35 * sum p (residue x r c)) (exact_pixel x r c p)
unfolding sum
demand3-pixel x h r c p = rw (residue-plain x h) (plain-pixel x r c p)

-- ---- code that drops a large residue
pub dropped-above : (x : ℕ → ℤ) (r c p : ℕ) → pos (13 * 2 ^ 32) ≤ℤ T x r c → 8 * p + 13 ≤ 8 * 255 → Within (13 * 2 ^ 32) (2 ^ 35 * p) (exact_pixel x r c p) → ⊥
dropped-above x r c p h l w = at (T x r c) h w
  where
    up : (p : ℕ) (F : ℤ) → pos 55834574848 ≤ℤ F → pos (34359738368 * p + 55834574848) ≤ℤ (pos (34359738368 * p) +ℤ F +ℤ pos 0)
    up p = split _ λ _ _. simp linear (omega arith)

    at : (F : ℤ) → pos 55834574848 ≤ℤ F → Within (13 * 2 ^ 32) (2 ^ 35 * p) (clamp_to (2 ^ 35 * 255) (pos (2 ^ 35 * p) +ℤ F)) → ⊥
    at F h w =
        omega (
          arith,
          w.1,
          clamp-in (34359738368 * 255) (34359738368 * p + 55834574848) (omega arith),
          clamp-near (34359738368 * 255) 0 (pos (34359738368 * p + 55834574848)) (pos (34359738368 * p) +ℤ F) (up p F h),
        )

-- a clamp raises nothing that is not negative
not_more : (m n : ℕ) → clamp_to m (pos n) ≤ n
unfolding clamp_to
not_more m n = min-le_left n m

pub dropped-below : (x : ℕ → ℤ) (r c p : ℕ) → (T x r c +ℤ pos (13 * 2 ^ 32)) ≤ℤ pos 0 → 13 ≤ 8 * p → Within (13 * 2 ^ 32) (2 ^ 35 * p) (exact_pixel x r c p) → ⊥
dropped-below x r c p h l w = at (T x r c) h w
  where
    down : (p q : ℕ) → 34359738368 * p ≡ q + 55834574848 → (F : ℤ) → (F +ℤ pos 55834574848) ≤ℤ pos 0 → (pos (34359738368 * p) +ℤ F) ≤ℤ (pos q +ℤ pos 0)
    down p q e = split _ λ _ _. simp linear (omega (arith, e))

    at : (F : ℤ) → (F +ℤ pos 55834574848) ≤ℤ pos 0 → Within (13 * 2 ^ 32) (2 ^ 35 * p) (clamp_to (2 ^ 35 * 255) (pos (2 ^ 35 * p) +ℤ F)) → ⊥
    at F h w =
        let q : ℕ = 34359738368 * p - 55834574848 in
        let e : 34359738368 * p ≡ q + 55834574848 = omega arith in
        omega (
          arith,
          e,
          w.0,
          not_more (34359738368 * 255) q,
          clamp-near (34359738368 * 255) 0 (pos (34359738368 * p) +ℤ F) (pos q) (down p q e F h),
        )
