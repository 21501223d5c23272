-- The RFC's loop of shifts, all at once: of the value, and of the bits read ahead. Assumes nothing.
use Rattle.std.proofs.Common.{◌≡◌, ℕ, zero, suc, ◌+◌, ◌-◌, ◌*◌, ◌/◌, ◌%◌, ◌^◌, ◌<◌, ◌≤◌, List, sym, ap, ◌∙◌, mul-le-mul_right, mul_assoc, add-mul, one-mul, mul-one, le-mul_of_pos_right, arith, pow_pos, pow-add, le-ltb, lt-ltb}
use Rattle.bool_decoder.specs.BoolCoder.{Coder, bit_at, renewed, shifted}
use Rattle.bool_decoder.specs.Held.{bits, ahead}
use Rattle.bool_decoder.specs.Inside.{Shifts}
use Rattle.bool_decoder.proofs.Bits.{pow-up, bits_small, bits-split, bits-front, bit-small}

abbrev pub coder : ℕ → ℕ → ℕ → Coder
coder v r p = record { value = v; range = r; place = p }

pub same-coder : {v v' r r' p p' : ℕ} → v ≡ v' → r ≡ r' → p ≡ p' → coder v r p ≡ coder v' r' p'
same-coder a b c = cc

-- s shifts at once
abbrev pub down : List ℕ → ℕ → Coder → Coder
down src s c = coder ((c.value * 2 ^ s + bits src (c.place + 8) s) % 256) (c.range * 2 ^ s) (c.place + s)

twice : (x k : ℕ) → x * 2 * 2 ^ k ≡ x * 2 ^ suc k
twice x k = mul_assoc x 2 (2 ^ k) ∙ ap (λ (y : ℕ). x * y) (sym (pow-up k))

at_least : (x k : ℕ) → x ≤ x * 2 ^ k
at_least x k = le-mul_of_pos_right x (pow_pos k)

-- one shift, and s more
up-value : (src : List ℕ) (s v p : ℕ)
    → ((v * 2 % 256 + bit_at src (p + 8)) * 2 ^ s + bits src (p + 1 + 8) s) % 256 ≡ (v * 2 ^ suc s + bits src (p + 8) (suc s)) % 256
up-value src s v p =
    let b : ℕ = bit_at src (p + 8) in
    let e : p + 8 + 1 ≡ p + 1 + 8 = omega arith in
    let t : bits src (p + 8) (suc s) ≡ b * 2 ^ s + bits src (p + 1 + 8) s
    = bits-front src (p + 8) s ∙ ap (λ (i : ℕ). b * 2 ^ s + bits src i s) e in
    let x : (v * 2 % 256 + b) * 2 ^ s ≡ v * 2 % 256 * 2 ^ s + b * 2 ^ s = add-mul (v * 2 % 256) b (2 ^ s) in
    let q : v * 2 ≡ 256 * (v * 2 / 256) + v * 2 % 256 = omega arith in
    let z : v * 2 * 2 ^ s ≡ 256 * (v * 2 / 256 * 2 ^ s) + v * 2 % 256 * 2 ^ s
    = ap (λ (i : ℕ). i * 2 ^ s) q
    ∙ add-mul (256 * (v * 2 / 256)) (v * 2 % 256) (2 ^ s)
    ∙ ap (λ (i : ℕ). i + v * 2 % 256 * 2 ^ s) (mul_assoc 256 (v * 2 / 256) (2 ^ s)) in
    omega (arith, twice v s)

renewed-down : (k s : ℕ) (src : List ℕ) (c : Coder) → s ≤ k → c.value < 256 → 127 < c.range * 2 ^ s → c.range * 2 ^ s < 256
    → renewed k src c ≡ down src s c
unfolding renewed bits
renewed-down zero zero src c l w a b = same-coder (omega arith) (sym (mul-one c.range)) (omega arith)
renewed-down (suc k) zero src c l w a b =
    rw (le-ltb c.range 128 (omega (arith, mul-one c.range))) (same-coder (omega arith) (sym (mul-one c.range)) (omega arith))
renewed-down zero (suc s) src c l w a b = absurd (omega arith)
renewed-down (suc k) (suc s) src c l w a b =
    rw (lt-ltb c.range 128 (omega (arith, at_least (c.range * 2) s, twice c.range s)))
    (renewed-down k s src (shifted src c) (omega arith) (omega (arith, bit-small src (c.place + 8)))
    (omega (arith, twice c.range s)) (omega (arith, twice c.range s))
    ∙ same-coder (up-value src s c.value c.place) (twice c.range s) (omega arith))

pub renewed-is : (s : ℕ) (src : List ℕ) (c : Coder) → c.value < 256 → Shifts c.range s → renewed 7 src c ≡ down src s c
renewed-is s src c w h = renewed-down 7 s src c (omega (arith, h.few)) w h.high h.byte

-- 2 ^ 64 in three parts
whole : (n k : ℕ) → n + 8 + k ≡ 64 → 256 * 2 ^ n * 2 ^ k ≡ 18446744073709551616
whole n k e =
    let f : 8 + n + k ≡ 64 = omega arith in
    ap (λ (i : ℕ). i * 2 ^ k) (sym (pow-add 2 8 n)) ∙ sym (pow-add 2 (8 + n) k) ∙ ap (λ (i : ℕ). 2 ^ i) f

-- of y above n bits that write z, moved to the top of 64, eight bits are left of y
shift-number : (y z n k : ℕ) → z < 2 ^ n → n + 8 + k ≡ 64 → (y * 2 ^ n + z) * 2 ^ k % 18446744073709551616 ≡ (y % 256 * 2 ^ n + z) * 2 ^ k
shift-number y z n k h e =
    let q : ℕ = y / 256 in
    let r : ℕ = y % 256 in
    let a : y ≡ q * 256 + r = omega arith in
    let b : y * 2 ^ n ≡ q * 256 * 2 ^ n + r * 2 ^ n = ap (λ (i : ℕ). i * 2 ^ n) a ∙ add-mul (q * 256) r (2 ^ n) in
    let f : y * 2 ^ n + z ≡ q * (256 * 2 ^ n) + (r * 2 ^ n + z) = omega (arith, mul_assoc q 256 (2 ^ n)) in
    let g : (y * 2 ^ n + z) * 2 ^ k ≡ q * (256 * 2 ^ n) * 2 ^ k + (r * 2 ^ n + z) * 2 ^ k
    = ap (λ (i : ℕ). i * 2 ^ k) f ∙ add-mul (q * (256 * 2 ^ n)) (r * 2 ^ n + z) (2 ^ k) in
    let i : q * (256 * 2 ^ n) * 2 ^ k ≡ q * 18446744073709551616
    = mul_assoc q (256 * 2 ^ n) (2 ^ k) ∙ ap (λ (j : ℕ). q * j) (whole n k e) in
    let j : r * 2 ^ n + z + 1 ≤ 256 * 2 ^ n = omega (arith, mul-le-mul_right {m = r} {n = 255} (2 ^ n) (omega arith)) in
    omega (arith, whole n k e, mul-le-mul_right (2 ^ k) j, add-mul (r * 2 ^ n + z) 1 (2 ^ k), one-mul (2 ^ k), pow_pos k)

module _ (src : List ℕ) (v r p h s : ℕ) (room : 8 + s ≤ h) (few : h ≤ 64) where
  n : ℕ
  n = h - s - 8

  k : ℕ
  k = 64 - (h - s)

  y : ℕ
  y = v * 2 ^ s + bits src (p + 8) s

  ahead-split : ahead src (coder v r p) (h - 8) ≡ y * 2 ^ n + bits src (p + 8 + s) n
  unfolding ahead n y
  ahead-split =
      let e : h - 8 ≡ s + (h - s - 8) = omega arith in
      let m : ℕ = h - s - 8 in
      let a : v * 2 ^ (s + m) ≡ v * 2 ^ s * 2 ^ m = ap (λ (i : ℕ). v * i) (pow-add 2 s m) ∙ sym (mul_assoc v (2 ^ s) (2 ^ m)) in
      let b : v * 2 ^ (s + m) + bits src (p + 8) (s + m) ≡ (v * 2 ^ s + bits src (p + 8) s) * 2 ^ m + bits src (p + 8 + s) m
      = omega (arith, bits-split src (p + 8) s m, add-mul (v * 2 ^ s) (bits src (p + 8) s) (2 ^ m)) in
      ap (λ (i : ℕ). v * 2 ^ i + bits src (p + 8) i) e ∙ b

  pub ahead-parts : ahead src (coder v r p) (h - 8) ≡ (v * 2 ^ s + bits src (p + 8) s) * 2 ^ (h - s - 8) + bits src (p + 8 + s) (h - s - 8)
  unfolding n y
  ahead-parts = ahead-split

  top-power : 2 ^ (64 - h) * 2 ^ s ≡ 2 ^ k
  unfolding k
  top-power = let e : 64 - h + s ≡ 64 - (h - s) = omega arith in sym (pow-add 2 (64 - h) s) ∙ ap (λ (i : ℕ). 2 ^ i) e

  closing : (y % 256 * 2 ^ n + bits src (p + 8 + s) n) * 2 ^ k ≡ ahead src (down src s (coder v r p)) (h - s - 8) * 2 ^ (64 - (h - s))
  unfolding ahead n k y
  closing =
      let e : p + 8 + s ≡ p + s + 8 = omega arith in
      ap (λ (i : ℕ). ((v * 2 ^ s + bits src (p + 8) s) % 256 * 2 ^ (h - s - 8) + bits src i (h - s - 8)) * 2 ^ (64 - (h - s))) e

  fits : n + 8 + k ≡ 64
  unfolding n k
  fits = omega arith

  pub shift-value : ahead src (coder v r p) (h - 8) * 2 ^ (64 - h) * 2 ^ s % 18446744073709551616
      ≡ ahead src (down src s (coder v r p)) (h - s - 8) * 2 ^ (64 - (h - s))
  shift-value =
      let a : ℕ = ahead src (coder v r p) (h - 8) in
      let x : a * 2 ^ (64 - h) * 2 ^ s ≡ (y * 2 ^ n + bits src (p + 8 + s) n) * 2 ^ k
      = mul_assoc a (2 ^ (64 - h)) (2 ^ s) ∙ ap (λ (i : ℕ). a * i) top-power ∙ ap (λ (i : ℕ). i * 2 ^ k) ahead-split in
      ap (λ (i : ℕ). i % 18446744073709551616) x
      ∙ shift-number y (bits src (p + 8 + s) n) n k (bits_small src (p + 8 + s) n) fits
      ∙ closing
