-- The bits of a partition. Assumes nothing.
use Rattle.std.proofs.Common.{◌≡◌, ℕ, zero, suc, ◌+◌, ◌-◌, ◌*◌, ◌/◌, ◌%◌, ◌^◌, ◌<◌, ◌≤◌, List, length, get_or, refl, ap, ◌∙◌, mul_assoc, arith}
use native.Mathlib.Nat.{pow-succ', zero-div}
use lib.ListN.{get_or-eq_default}
use Rattle.bool_decoder.specs.BoolCoder.{bit_at}
use Rattle.bool_decoder.specs.Held.{bits}

pub pow-up : (n : ℕ) → 2 ^ suc n ≡ 2 * 2 ^ n
pow-up n = pow-succ' 2 n

pub bit-small : (src : List ℕ) (k : ℕ) → bit_at src k < 2
unfolding bit_at
bit-small src k = omega arith

pub bits_small : (src : List ℕ) (k n : ℕ) → bits src k n < 2 ^ n
unfolding bits
bits_small src k zero = omega arith
bits_small src k (suc n) = omega (arith, bits_small src k n, bit-small src (k + n), pow-up n)

-- so many bits, and so many behind them
pub bits-split : (src : List ℕ) (k m n : ℕ) → bits src k (m + n) ≡ bits src k m * 2 ^ n + bits src (k + m) n
unfolding bits
bits-split src k m zero =
    let e : m + 0 ≡ m = omega arith in
    ap (bits src k) e ∙ (let y : bits src k m ≡ bits src k m * 1 + 0 = omega arith in y)
bits-split src k m (suc n) =
    let e : m + suc n ≡ suc (m + n) = omega arith in
    let f : k + (m + n) ≡ k + m + n = omega arith in
    let g : bits src k (suc (m + n)) ≡ bits src k (m + n) * 2 + bit_at src (k + m + n) = ap (λ (i : ℕ). bits src k (m + n) * 2 + bit_at src i) f in
    ap (bits src k) e ∙ g
    ∙ (let y : bits src k (m + n) * 2 + bit_at src (k + m + n) ≡ bits src k m * 2 ^ suc n + (bits src (k + m) n * 2 + bit_at src (k + m + n))
    = omega (arith, bits-split src k m n, pow-up n, mul_assoc (bits src k m) 2 (2 ^ n), mul_assoc (bits src k m) (2 ^ n) 2, ap (λ (i : ℕ). bits src k m * i) (pow-up n)) in y)

-- a byte is its eight bits
byte-is : (b : ℕ) → b < 256
    → (((((((0 + b / 128 % 2) * 2 + b / 64 % 2) * 2 + b / 32 % 2) * 2 + b / 16 % 2) * 2 + b / 8 % 2) * 2 + b / 4 % 2) * 2 + b / 2 % 2) * 2 + b / 1 % 2 ≡ b
byte-is b h =
    let p : (0 + b / 128 % 2) * 2 + b / 64 % 2 ≡ b / 64 = omega arith in
    let q : b / 64 * 2 + b / 32 % 2 ≡ b / 32 = omega arith in
    let r : b / 32 * 2 + b / 16 % 2 ≡ b / 16 = omega arith in
    let s : b / 16 * 2 + b / 8 % 2 ≡ b / 8 = omega arith in
    let t : b / 8 * 2 + b / 4 % 2 ≡ b / 4 = omega arith in
    let u : b / 4 * 2 + b / 2 % 2 ≡ b / 2 = omega arith in
    rw (p, q, r, s, t, u) (omega arith)

at-bit : (src : List ℕ) (a j q : ℕ) → (8 * a + j) / 8 ≡ a → (8 * a + j) % 8 ≡ q → bit_at src (8 * a + j) ≡ get_or src a 0 / 2 ^ (7 - q) % 2
unfolding bit_at
at-bit src a j q e f = rw (e, f)

pub bits-byte : (src : List ℕ) (a : ℕ) → get_or src a 0 < 256 → bits src (8 * a) 8 ≡ get_or src a 0
unfolding bits
bits-byte src a h =
    rw (
      at-bit src a 0 0 (omega arith) (omega arith),
      at-bit src a 1 1 (omega arith) (omega arith),
      at-bit src a 2 2 (omega arith) (omega arith),
      at-bit src a 3 3 (omega arith) (omega arith),
      at-bit src a 4 4 (omega arith) (omega arith),
      at-bit src a 5 5 (omega arith) (omega arith),
      at-bit src a 6 6 (omega arith) (omega arith),
      at-bit src a 7 7 (omega arith) (omega arith),
    )
    (byte-is (get_or src a 0) h)

-- four bytes are their 32 bits
pub bits-four : (src : List ℕ) (a : ℕ) → ((i : ℕ) → get_or src i 0 < 256)
    → bits src (8 * a) 32 ≡ get_or src a 0 * 16777216 + get_or src (a + 1) 0 * 65536 + get_or src (a + 2) 0 * 256 + get_or src (a + 3) 0
bits-four src a h =
    let byte : (i k : ℕ) → k ≡ 8 * i → bits src k 8 ≡ get_or src i 0 = λ i k e. ap (λ (j : ℕ). bits src j 8) e ∙ bits-byte src i (h i) in
    let p : bits src (8 * a) 32 ≡ bits src (8 * a) 24 * 256 + bits src (8 * a + 24) 8 = bits-split src (8 * a) 24 8 in
    let q : bits src (8 * a) 24 ≡ bits src (8 * a) 16 * 256 + bits src (8 * a + 16) 8 = bits-split src (8 * a) 16 8 in
    let r : bits src (8 * a) 16 ≡ bits src (8 * a) 8 * 256 + bits src (8 * a + 8) 8 = bits-split src (8 * a) 8 8 in
    omega (
      arith,
      bits-byte src a (h a),
      byte (a + 1) (8 * a + 8) (omega arith),
      byte (a + 2) (8 * a + 16) (omega arith),
      byte (a + 3) (8 * a + 24) (omega arith),
    )

-- past the end there are zeros
none-at : (src : List ℕ) (k : ℕ) → 8 * length src ≤ k → bit_at src k ≡ 0
unfolding bit_at
none-at src k h =
    let e : get_or src (k / 8) 0 ≡ 0 = get_or-eq_default src 0 (omega arith) in
    let f : 0 / 2 ^ (7 - k % 8) ≡ 0 = zero-div (2 ^ (7 - k % 8)) in
    rw (e, f)

pub bits_none : (src : List ℕ) (k n : ℕ) → 8 * length src ≤ k → bits src k n ≡ 0
unfolding bits
bits_none src k zero h = refl
bits_none src k (suc n) h = omega (arith, bits_none src k n h, none-at src (k + n) (omega arith))

-- the first bit, and the others
first_bit : (src : List ℕ) (k : ℕ) → bits src k 1 ≡ bit_at src k
unfolding bits
first_bit src k =
    let e : k + 0 ≡ k = omega arith in
    let y : 0 * 2 + bit_at src (k + 0) ≡ bit_at src k = omega (arith, ap (bit_at src) e) in
    y

pub bits-front : (src : List ℕ) (k n : ℕ) → bits src k (suc n) ≡ bit_at src k * 2 ^ n + bits src (k + 1) n
bits-front src k n =
    let e : suc n ≡ 1 + n = omega arith in
    ap (bits src k) e ∙ bits-split src k 1 n ∙ ap (λ (i : ℕ). i * 2 ^ n + bits src (k + 1) n) (first_bit src k)
