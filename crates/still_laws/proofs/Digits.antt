-- The place of a pixel says where it is: in blocks of n rows of n, w of them side by side, two pixels at one place are of one block, one row and one column.
--     pixel-apart       the block's row and column, the pixel's row and column
--     macroblock-apart  the same by the block's raster index
--     pixel-from        a pixel of block row r stands at n r n w or later
--     rows-rise         a later macroblock is in no earlier row
-- Assumes nothing.
use Prim.Native.Nat.{ℕ, suc, ◌+◌, ◌*◌, ◌/◌, ◌%◌, ◌<◌, ◌≤◌}
use mathlib.Core.Path.{◌≡◌, sym, ap, ◌∙◌}
use native.Mathlib.Nat.{mul-le-mul_left, mul-le-mul_right, mul-add-div_right, div-eq_of_lt, add-zero, div-add-mod, mod-lt, le-div_iff_mul-le, div-mul-le_self, le_trans}
use native.Mathlib.Omega.{arith}
use Rattle.canvas.specs.Placed.{pixel_at}

quotient : (m a b : ℕ) → b < m → (a * m + b) / m ≡ a
quotient m a b h = let s : 0 < m = omega arith in rw (mul-add-div_right s a b, div-eq_of_lt h, add-zero)

digits : (m a b c d : ℕ) → b < m → d < m → a * m + b ≡ c * m + d → (a ≡ c) × (b ≡ d)
digits m a b c d p q e =
    let f : a ≡ c = sym (quotient m a b p) ∙ ap (λ (t : ℕ). t / m) e ∙ quotient m c d q in
    let g : c * m + b ≡ c * m + d = rw f at e in
    (f, omega arith)

across : (n w c x : ℕ) → c < w → x < n → n * c + x < n * w
across n w c x h k = let m : n * suc c ≤ n * w = mul-le-mul_left n h in omega arith

-- row by row, then across
by_rows : (n w c r i x : ℕ) → pixel_at n w c r i x ≡ (n * r + i) * (n * w) + (n * c + x)
unfolding pixel_at
by_rows n w c r i x = omega arith

module _ (n w c r i x d s j z : ℕ) (hc : c < w) (hi : i < n) (hx : x < n) (hd : d < w) (hj : j < n) (hz : z < n) where
  pub pixel-apart : pixel_at n w c r i x ≡ pixel_at n w d s j z → (r ≡ s) × (i ≡ j) × (c ≡ d) × (x ≡ z)
  pixel-apart e =
      let f : (n * r + i) * (n * w) + (n * c + x) ≡ (n * s + j) * (n * w) + (n * d + z) = sym (by_rows n w c r i x) ∙ e ∙ by_rows n w d s j z in
      let o = digits (n * w) (n * r + i) (n * c + x) (n * s + j) (n * d + z) (across n w c x hc hx) (across n w d z hd hz) f in
      let a = digits n r i s j hi hj (let t : n * r + i ≡ n * s + j = o.0 in omega arith) in
      let b = digits n c x d z hx hz (let t : n * c + x ≡ n * d + z = o.1 in omega arith) in
      (a.0, a.1, b.0, b.1)

-- macroblocks k and l of a picture w wide
pub macroblock-apart : (n w k l i x j z : ℕ) → 0 < w → i < n → x < n → j < n → z < n
    → pixel_at n w (k % w) (k / w) i x ≡ pixel_at n w (l % w) (l / w) j z → k ≡ l
macroblock-apart n w k l i x j z hw hi hx hj hz e =
    let o = pixel-apart n w (k % w) (k / w) i x (l % w) (l / w) j z (mod-lt k hw) hi hx (mod-lt l hw) hj hz e in
    sym (div-add-mod k w) ∙ ap (λ (t : ℕ). w * t + k % w) o.0 ∙ ap (λ (t : ℕ). w * (l / w) + t) o.2 ∙ div-add-mod l w

pub pixel-from : (n w r c s i x : ℕ) → r ≤ s → n * r * (n * w) ≤ pixel_at n w c s i x
unfolding pixel_at
pixel-from n w r c s i x h =
    let a : n * r ≤ n * s = mul-le-mul_left n h in
    let b : n * r * (n * w) ≤ n * s * (n * w) = mul-le-mul_right (n * w) a in
    omega arith

pub rows-rise : (w k l : ℕ) → 0 < w → k ≤ l → k / w ≤ l / w
rows-rise w k l h m = (le-div_iff_mul-le h).1 (le_trans (div-mul-le_self k w) m)
