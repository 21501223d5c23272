-- One range: how many shifts bring it to 128 or more, and where it is split. Assumes nothing.
use Rattle.std.proofs.Common.{◌≡◌, ℕ, suc, ◌+◌, ◌-◌, ◌*◌, ◌/◌, ◌%◌, ◌^◌, ◌<◌, ◌≤◌, Bool, true, false, ltb, sym, refl, ap, ◌∙◌, subst, mul-le-mul_right, mul_assoc, mul_comm, mul-le-mul, mul-le-mul_left, mul-lt-mul_of_pos_right, arith, pow_pos, pow_mono, pow-add, ltb-false, ltb-true}
use native.Mathlib.Nat.{pow-succ'}
use lib.Count.{count_leading_zeros, leading_top}
use Rattle.bool_decoder.specs.BoolCoder.{split_of}
use Rattle.bool_decoder.specs.Inside.{Shifts, Splits, Shift, Split}

-- the count of leading zeros of a byte's range, less 24
module _ (r : ℕ) (p : 0 < r) (q : r < 256) where
  top : (j : ℕ) × (count_leading_zeros 32 r + suc j ≡ 32) × (2 ^ j ≤ r) × (r < 2 ^ suc j)
  top = leading_top 32 r p (omega arith)

  top-low : top.0 < 8
  top-low = go (ltb top.0 8) refl
    where
      go : (t : Bool) → ltb top.0 8 ≡ t → top.0 < 8
      go true e = ltb-true top.0 8 e
      go false e = absurd (omega (arith, pow_mono (ltb-false top.0 8 e), top.2))

  rest : ℕ
  rest = count_leading_zeros 32 r % 8

  rest-is : top.0 + rest ≡ 7
  unfolding rest
  rest-is = omega (arith, top.1, top-low)

  seven : 2 ^ top.0 * 2 ^ rest ≡ 128
  seven = sym (pow-add 2 top.0 rest) ∙ ap (λ (k : ℕ). 2 ^ k) rest-is

  zeros-shift : Shifts r (count_leading_zeros 32 r % 8)
  unfolding rest
  zeros-shift =
      record {
        few = omega (arith, rest-is);
        high = omega (arith, mul-le-mul_right (2 ^ rest) top.2, seven);
        byte = omega (arith, mul-lt-mul_of_pos_right top.3 (pow_pos rest), seven, mul_assoc 2 (2 ^ top.0) (2 ^ rest), ap (λ (x : ℕ). x * 2 ^ rest) (pow-succ' 2 top.0));
      }

pub zeros-is : (r : ℕ) → Shift r (count_leading_zeros 32 r % 8)
zeros-is r = record { few = omega arith; is = λ p q. zeros-shift r p q }

-- the split, 1 + (range - 1) * prob / 256, lies below the range; w is range - 1 as the code has it
module _ (w p : ℕ) (c : p < 256) where
  pub product-fits : w < 4294967296 → w * p ≤ 1095216660225
  product-fits h = mul-le-mul {n₁ = w} {m₁ = p} {n₂ = 4294967295} {m₂ = 255} (omega arith) (omega arith)

module _ (r p : ℕ) (c : p < 256) (a : 127 < r) (b : r < 256) where
  pub split-splits : Splits r p (split_of r p)
  split-splits =
      record {
        is = refl;
        some = omega arith;
        below = omega (arith, mul-le-mul_left {m = p} {n = 255} (r - 1) (omega arith), mul_comm (r - 1) 255);
      }

pub split-is : (r p w : ℕ) → p < 256 → w < 4294967296 → (w + 1) % 4294967296 ≡ r → Split r p (1 + w * p / 256)
split-is r p w c l e =
    record {
      is =
          λ a b.
          let f : w ≡ r - 1 = omega arith in
          subst (λ (i : ℕ). Splits r p (1 + i * p / 256)) (sym f) (split-splits r p c a b);
    }
