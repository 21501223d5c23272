-- Bytes read ahead change no Coder. Assumes nothing.
use Rattle.std.proofs.Common.{◌≡◌, ℕ, ◌+◌, ◌-◌, ◌*◌, ◌%◌, ◌^◌, ◌<◌, ◌≤◌, Bool, true, false, ltb, List, length, sym, refl, ap, ◌∙◌, mul-le-mul_right, mul_assoc, add-mul, one-mul, arith, pow_pos, pow-add, shl_exact, ltb-false, ltb-true}
use lib.Bits.{bit_or, or_shifted}
use Rattle.bool_decoder.specs.BoolCoder.{Coder}
use Rattle.bool_decoder.specs.Held.{Holds, bits, ahead}
use Rattle.bool_decoder.specs.Inside.{Loads}
use Rattle.bool_decoder.specs.declared.BoolDecoder.{BoolDecoder}
use Rattle.bool_decoder.proofs.Bits.{bits_small, bits-split, bits_none}

abbrev pub state : ℕ → ℕ → ℕ → ℕ → BoolDecoder
state v r h a = record { value = v; range = r; held = h; at = a }

-- 32 bits more
ahead_more : (src : List ℕ) (c : Coder) (n : ℕ) → ahead src c (n + 32) ≡ ahead src c n * 4294967296 + bits src (c.place + 8 + n) 32
unfolding ahead
ahead_more src c n =
    let v : ℕ = c.value in
    let b : ℕ = bits src (c.place + 8) n in
    let a : v * 2 ^ (n + 32) ≡ v * 2 ^ n * 4294967296 = ap (λ (i : ℕ). v * i) (pow-add 2 n 32) ∙ sym (mul_assoc v (2 ^ n) 4294967296) in
    omega (arith, bits-split src (c.place + 8) n 32, add-mul (v * 2 ^ n) b 4294967296)

module _ (src : List ℕ) (c : Coder) (h four : ℕ) (some : 8 ≤ h) (few : h ≤ 32) (is : four ≡ bits src (c.place + h) 32) where
  a : ℕ
  a = ahead src c (h - 8)

  k : ℕ
  k = 2 ^ (32 - h)

  four-small : four < 4294967296
  four-small = omega (arith, bits_small src (c.place + h) 32)

  top : 2 ^ (64 - h) ≡ 4294967296 * k
  unfolding k
  top = let e : 64 - h ≡ 32 + (32 - h) = omega arith in ap (λ (i : ℕ). 2 ^ i) e ∙ pow-add 2 32 (32 - h)

  below : four * k < 2 ^ (64 - h)
  unfolding k
  below =
      omega (
        arith,
        top,
        mul-le-mul_right {m = four + 1} {n = 4294967296} k (omega (arith, four-small)),
        add-mul four 1 k,
        one-mul k,
        pow_pos (32 - h),
      )

  ahead-loaded : ahead src c (h + 32 - 8) ≡ a * 4294967296 + four
  unfolding a
  ahead-loaded =
      let e : h + 32 - 8 ≡ h - 8 + 32 = omega arith in
      let f : c.place + 8 + (h - 8) ≡ c.place + h = omega arith in
      ap (ahead src c) e ∙ ahead_more src c (h - 8) ∙ ap (λ (i : ℕ). ahead src c (h - 8) * 4294967296 + bits src i 32) f
      ∙ ap (λ (i : ℕ). ahead src c (h - 8) * 4294967296 + i) (sym is)

  pub loaded-value : (v : ℕ) → v ≡ ahead src c (h - 8) * 2 ^ (64 - h)
      → bit_or v (four * 2 ^ (32 - h) % 18446744073709551616) ≡ ahead src c (h + 32 - 8) * 2 ^ (64 - (h + 32))
  unfolding a k
  loaded-value v e =
      let f : 64 - (h + 32) ≡ 32 - h = omega arith in
      let x : a * 2 ^ (64 - h) ≡ a * 4294967296 * k = ap (λ (i : ℕ). a * i) top ∙ sym (mul_assoc a 4294967296 k) in
      let y : a * 2 ^ (64 - h) + four * k ≡ (a * 4294967296 + four) * k = omega (arith, add-mul (a * 4294967296) four k) in
      ap (λ (i : ℕ). bit_or v i) (shl_exact {a = four} 32 (32 - h) 64 four-small (omega arith))
      ∙ ap (λ (i : ℕ). bit_or i (four * 2 ^ (32 - h))) e
      ∙ or_shifted a (64 - h) (four * 2 ^ (32 - h)) below
      ∙ y
      ∙ ap (λ (i : ℕ). i * k) (sym ahead-loaded)
      ∙ ap (λ (i : ℕ). ahead src c (h + 32 - 8) * 2 ^ i) (sym f)

  pub zeros-value : four ≡ 0 → (v : ℕ) → v ≡ ahead src c (h - 8) * 2 ^ (64 - h) → v ≡ ahead src c (h + 32 - 8) * 2 ^ (64 - (h + 32))
  unfolding a k
  zeros-value z v e =
      let f : 64 - (h + 32) ≡ 32 - h = omega arith in
      let x : a * 2 ^ (64 - h) ≡ a * 4294967296 * k = ap (λ (i : ℕ). a * i) top ∙ sym (mul_assoc a 4294967296 k) in
      let y : a * 4294967296 + four ≡ a * 4294967296 = omega arith in
      e ∙ x ∙ ap (λ (i : ℕ). i * k) (sym y) ∙ ap (λ (i : ℕ). i * k) (sym ahead-loaded)
      ∙ ap (λ (i : ℕ). ahead src c (h + 32 - 8) * 2 ^ i) (sym f)

-- a decoder with 32 bits more, whose value and place are those of the same Coder
grown : (src : List ℕ) (d : BoolDecoder) (v at : ℕ) (c : Coder) → Holds src d c → d.held ≤ 32
    → v ≡ ahead src c (d.held + 32 - 8) * 2 ^ (64 - (d.held + 32))
    → 8 * at ≤ c.place + (d.held + 32) → (at < length src + 8 → 8 * at ≡ c.place + (d.held + 32))
    → Holds src (state v d.range (d.held + 32) at) c
grown src d v at c s few e b x =
    record {
      range = s.range;
      high = s.high;
      byte = s.byte;
      small = s.small;
      some = omega arith;
      few = omega arith;
      value = e;
      before = b;
      exact = x;
    }

module _ (src : List ℕ) (d : BoolDecoder) (few : d.held ≤ 32) where
  pub loads-four : (four : ℕ) → four ≡ bits src (8 * d.at) 32 → d.at < length src
      → Loads src d (state (bit_or d.value (four * 2 ^ (32 - d.held) % 18446744073709551616)) d.range (d.held + 32) (d.at + 4))
  loads-four four is l =
      record {
        holds =
            λ c s.
            let e : 8 * d.at ≡ c.place + d.held = s.exact (omega arith) in
            grown src d (bit_or d.value (four * 2 ^ (32 - d.held) % 18446744073709551616)) (d.at + 4) c s few
            (loaded-value src c d.held four s.some few (is ∙ ap (λ (i : ℕ). bits src i 32) e) d.value s.value)
            (omega arith) (λ x. omega arith);
        held = refl;
      }

  pub loads-zeros : length src ≤ d.at → (at : ℕ) → (d.at < length src + 8 → at ≡ d.at + 4) → (length src + 8 ≤ d.at → at ≡ d.at)
      → Loads src d (state d.value d.range (d.held + 32) at)
  loads-zeros l at p q =
      record {
        holds =
            λ c s.
            let z : 0 ≡ bits src (c.place + d.held) 32 = sym (bits_none src (c.place + d.held) 32 (omega (arith, s.before))) in
            grown src d d.value at c s few
            (zeros-value src c d.held 0 s.some few z refl d.value s.value)
            (near (ltb d.at (length src + 8)) refl c s) (exactly (ltb d.at (length src + 8)) refl c s);
        held = refl;
      }
    where
      near : (t : Bool) → ltb d.at (length src + 8) ≡ t → (c : Coder) → Holds src d c → 8 * at ≤ c.place + (d.held + 32)
      near true e c s =
          let y : d.at < length src + 8 = ltb-true d.at (length src + 8) e in
          omega (arith, p y, s.exact y)
      near false e c s = omega (arith, q (ltb-false d.at (length src + 8) e), s.before)

      exactly : (t : Bool) → ltb d.at (length src + 8) ≡ t → (c : Coder) → Holds src d c → at < length src + 8 → 8 * at ≡ c.place + (d.held + 32)
      exactly true e c s x =
          let y : d.at < length src + 8 = ltb-true d.at (length src + 8) e in
          omega (arith, p y, s.exact y)
      exactly false e c s x = absurd (omega (arith, q (ltb-false d.at (length src + 8) e), ltb-false d.at (length src + 8) e))
