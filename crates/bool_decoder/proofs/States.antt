-- A decoder's state, as the RFC keeps it: taken up, and put down. Assumes nothing.
use Rattle.std.proofs.Common.{◌≡◌, ℕ, ◌+◌, ◌-◌, ◌*◌, ◌/◌, ◌%◌, ◌^◌, ◌<◌, ◌≤◌, Bool, true, false, ◌&&◌, ◌||◌, eqb, ltb, leb, List, length, get_or, sym, refl, ap, ◌∙◌, mul-le-mul_right, mod-eq_of_lt, mul_assoc, add-mul, one-mul, arith, pow_pos, pow-add, ltb-false, ltb-true, eqb-true, leb-true}
use native.Mathlib.Nat.{mul-add-div_right, div-eq_of_lt}
use Rattle.lists.specs.Lists.{pick}
use Rattle.bool_decoder.specs.BoolCoder.{Coder, past}
use Rattle.bool_decoder.specs.Held.{Holds, bits, ahead}
use Rattle.bool_decoder.specs.State.{state_of, coder_of, stands_of, in_range}
use Rattle.bool_decoder.specs.declared.BoolDecoder.{BoolDecoder}
use Rattle.bool_decoder.specs.declared.state.BoolState.{BoolState}
use Rattle.bool_decoder.proofs.Bits.{bits_small, bits-split, bits-byte}
use Rattle.bool_decoder.proofs.Shift.{ahead-parts}
use Rattle.bool_decoder.proofs.Load.{state}

abbrev pub saved : ℕ → ℕ → ℕ → ℕ → BoolState
saved a r v b = record { at = a; range = r; value = v; bit_count = b }

pub same-saved : {a a' r r' v v' b b' : ℕ} → a ≡ a' → r ≡ r' → v ≡ v' → b ≡ b' → saved a r v b ≡ saved a' r' v' b'
same-saved p q r s = cc

-- the bits of a byte that are not shifted out
byte-rest : (src : List ℕ) (a count : ℕ) → count < 8 → get_or src a 0 < 256
    → get_or src a 0 * 2 ^ count % 256 ≡ bits src (8 * a + count) (8 - count) * 2 ^ count
byte-rest src a count h l =
    let x : ℕ = bits src (8 * a) count in
    let y : ℕ = bits src (8 * a + count) (8 - count) in
    let e : count + (8 - count) ≡ 8 = omega arith in
    let f : 8 - count + count ≡ 8 = omega arith in
    let p : 2 ^ (8 - count) * 2 ^ count ≡ 256 = sym (pow-add 2 (8 - count) count) ∙ ap (λ (i : ℕ). 2 ^ i) f in
    let b : get_or src a 0 ≡ x * 2 ^ (8 - count) + y
    = sym (bits-byte src a l) ∙ ap (bits src (8 * a)) (sym e) ∙ bits-split src (8 * a) count (8 - count) in
    let q : x * 2 ^ (8 - count) * 2 ^ count ≡ x * 256 = mul_assoc x (2 ^ (8 - count)) (2 ^ count) ∙ ap (λ (i : ℕ). x * i) p in
    let w : get_or src a 0 * 2 ^ count ≡ x * 256 + y * 2 ^ count
    = ap (λ (i : ℕ). i * 2 ^ count) b ∙ add-mul (x * 2 ^ (8 - count)) y (2 ^ count) ∙ ap (λ (i : ℕ). i + y * 2 ^ count) q in
    let s : y + 1 ≤ 2 ^ (8 - count) = omega (arith, bits_small src (8 * a + count) (8 - count)) in
    omega (arith, mul-le-mul_right (2 ^ count) s, add-mul y 1 (2 ^ count), one-mul (2 ^ count), pow_pos count)

-- the bits held are the value's two bytes, less the bits that are shifted out
two_bytes : (v y count : ℕ) → count < 8 → (v * 2 ^ (8 - count) + y) * 2 ^ count ≡ v * 256 + y * 2 ^ count
two_bytes v y count h =
    let f : 8 - count + count ≡ 8 = omega arith in
    let p : 2 ^ (8 - count) * 2 ^ count ≡ 256 = sym (pow-add 2 (8 - count) count) ∙ ap (λ (i : ℕ). 2 ^ i) f in
    add-mul (v * 2 ^ (8 - count)) y (2 ^ count)
    ∙ ap (λ (i : ℕ). i + y * 2 ^ count) (mul_assoc v (2 ^ (8 - count)) (2 ^ count) ∙ ap (λ (i : ℕ). v * i) p)

-- what a state that stands says
and_left : (a b : Bool) → a && b ≡ true → a ≡ true
and_left true b e = refl
and_left false b e = e

and_right : (a b : Bool) → a && b ≡ true → b ≡ true
and_right true b e = e
and_right false b e = let v : ◌≡◌ {A = ℕ} 1 0 = ap (λ (t : Bool). pick t 0 1) e in absurd (omega arith)

record Stands (src : List ℕ) (s : BoolState) : Type 0 where
  two : 2 ≤ s.at
  inside : s.at ≤ length src
  high : 128 ≤ s.range
  byte : s.range ≤ 255
  count : s.bit_count ≤ 7
  value : s.value ≤ 65535
  low : s.value % 256 ≡ get_or src (s.at - 1) 0 * 2 ^ (s.bit_count % 8) % 256

stands-says : (src : List ℕ) (s : BoolState) → stands_of src s ≡ true → Stands src s
unfolding stands_of
stands-says src s = go (ltb s.at 2) refl (ltb (length src) s.at) refl
  where
    no : ◌≡◌ {A = Bool} false true → Stands src s
    no e = let v : ◌≡◌ {A = ℕ} 1 0 = ap (λ (t : Bool). pick t 0 1) e in absurd (omega arith)

    go : (a : Bool) → ltb s.at 2 ≡ a → (b : Bool) → ltb (length src) s.at ≡ b
        → pick a false (pick b false (in_range s && eqb (s.value % 256) (get_or src (s.at - 1) 0 * 2 ^ (s.bit_count % 8) % 256)
        && (ltb (s.value / 256) s.range || eqb (get_or src 0 0) 255))) ≡ true
        → Stands src s
    go true p b q e = no e
    go false p true q e = no e
    go false p false q e =
        let low : Bool = eqb (s.value % 256) (get_or src (s.at - 1) 0 * 2 ^ (s.bit_count % 8) % 256) in
        let x = and_left (in_range s && low) (ltb (s.value / 256) s.range || eqb (get_or src 0 0) 255) e in
        let y = and_left (in_range s) low x in
        let z = and_left (leb 128 s.range && leb s.range 255 && leb s.bit_count 7) (leb s.value 65535) y in
        let w = and_left (leb 128 s.range && leb s.range 255) (leb s.bit_count 7) z in
        record {
          two = ltb-false s.at 2 p;
          inside = ltb-false (length src) s.at q;
          high = leb-true 128 s.range (and_left (leb 128 s.range) (leb s.range 255) w);
          byte = leb-true s.range 255 (and_right (leb 128 s.range) (leb s.range 255) w);
          count = leb-true s.bit_count 7 (and_right (leb 128 s.range && leb s.range 255) (leb s.bit_count 7) z);
          value = leb-true s.value 65535 (and_right (leb 128 s.range && leb s.range 255 && leb s.bit_count 7) (leb s.value 65535) y);
          low = eqb-true (s.value % 256) (get_or src (s.at - 1) 0 * 2 ^ (s.bit_count % 8) % 256) (and_right (in_range s) low x);
        }

-- a value of two bytes at the top of 64 bits
taken-up : (src : List ℕ) (v a count w : ℕ) → count < 8 → get_or src a 0 < 256
    → w ≡ v * 256 + get_or src a 0 * 2 ^ count % 256
    → w * 281474976710656 ≡ (v * 2 ^ (8 - count) + bits src (8 * a + count) (8 - count)) * 2 ^ (48 + count)
taken-up src v a count w h l e =
    let y : ℕ = bits src (8 * a + count) (8 - count) in
    let f : w ≡ (v * 2 ^ (8 - count) + y) * 2 ^ count
    = e ∙ ap (λ (i : ℕ). v * 256 + i) (byte-rest src a count h l) ∙ sym (two_bytes v y count h) in
    let g : 2 ^ count * 281474976710656 ≡ 2 ^ (48 + count)
    = sym (pow-add 2 count 48) ∙ (let k : count + 48 ≡ 48 + count = omega arith in ap (λ (i : ℕ). 2 ^ i) k) in
    ap (λ (i : ℕ). i * 281474976710656) f
    ∙ mul_assoc (v * 2 ^ (8 - count) + y) (2 ^ count) 281474976710656
    ∙ ap (λ (i : ℕ). (v * 2 ^ (8 - count) + y) * i) g

-- the numbers of a state
next_place : (at n : ℕ) → 2 ≤ at → 8 * (at - 2) + n + 8 ≡ 8 * (at - 1) + n
next_place at n h = omega arith

below-held : (n : ℕ) → n ≤ 7 → (16 - n % 8 - 8 ≡ 8 - n) × (64 - (16 - n % 8) ≡ 48 + n) × (16 - n % 8 ≡ 16 - n)
below-held n h = let e : n % 8 ≡ n = omega arith in rw e (omega arith, omega arith, refl)

whole-place : (at n : ℕ) → 2 ≤ at → n ≤ 7 → 8 * at ≡ 8 * (at - 2) + n + (16 - n)
whole-place at n h l = omega arith

count_law : (h at p : ℕ) → h ≤ 64 → 8 * at ≡ p + h → (64 - h % 64) % 8 ≡ p % 8
count_law h at p l e = omega arith

less-sixteen : (u h : ℕ) → u < 4294967296 → 16 ≤ h → h ≤ 64 → (u + 16) % 4294967296 ≡ h → u + 16 ≡ h
less-sixteen u h a b c d = omega arith

eighths : (u q r at : ℕ) → r < 8 → u + 16 + (8 * q + r) ≡ 8 * at → (u + r) / 8 + (2 + q) ≡ at
eighths u q r at h e = omega arith

wrapped : (w x k at : ℕ) → w < 18446744073709551616 → at < 18446744073709551616 → x + k ≡ at → (w + x) % 18446744073709551616 ≡ at → w ≡ k
wrapped w x k at a b e f = omega arith

at-law : (h at p u w : ℕ) → 33 ≤ h → h ≤ 64 → at < 18446744073709551616 → w < 18446744073709551616 → u < 4294967296 → 8 * at ≡ p + h
    → (u + 16) % 4294967296 ≡ h → (w + (u + p % 8) / 8) % 18446744073709551616 ≡ at → w ≡ 2 + p / 8
at-law h at p u w l f a b c e g i =
    wrapped w ((u + p % 8) / 8) (2 + p / 8) at b a (eighths u (p / 8) (p % 8) at (mod-eight p) (sums u h at p (less-sixteen u h c (by-sixteen h l) f g) e)) i
  where
    mod-eight : (p : ℕ) → p % 8 < 8
    mod-eight p = omega arith

    by-sixteen : (h : ℕ) → 33 ≤ h → 16 ≤ h
    by-sixteen h l = omega arith

    sums : (u h at p : ℕ) → u + 16 ≡ h → 8 * at ≡ p + h → u + 16 + (8 * (p / 8) + p % 8) ≡ 8 * at
    sums u h at p x y = omega arith

pub resumes : (s : BoolState) (src : List ℕ) → ((i : ℕ) → get_or src i 0 < 256) → stands_of src s ≡ true
    → Holds src (state (s.value * 281474976710656 % 18446744073709551616) (s.range % 256) (16 - s.bit_count % 8) s.at) (coder_of s)
unfolding coder_of ahead
resumes s src bytes e =
    let t = stands-says src s e in
    let n : ℕ = s.bit_count in
    let a : ℕ = s.at - 1 in
    let two : 2 ≤ s.at = t.two in
    let few : n ≤ 7 = t.count in
    let m : n % 8 ≡ n = omega arith in
    let low : s.value % 256 ≡ get_or src a 0 * 2 ^ n % 256 = t.low ∙ ap (λ (i : ℕ). get_or src a 0 * 2 ^ i % 256) m in
    let w : s.value ≡ s.value / 256 * 256 + get_or src a 0 * 2 ^ n % 256 = omega arith in
    let x : s.value * 281474976710656 % 18446744073709551616 ≡ s.value * 281474976710656 = omega (arith, t.value) in
    let p : 8 * (s.at - 2) + n + 8 ≡ 8 * a + n = next_place s.at n two in
    let q = below-held n few in
    let z : 8 * s.at ≡ 8 * (s.at - 2) + n + (16 - n % 8) = whole-place s.at n two few ∙ ap (λ (k : ℕ). 8 * (s.at - 2) + n + k) (sym q.2) in
    record {
      range = omega (arith, t.high, t.byte);
      high = omega (arith, t.high);
      byte = omega (arith, t.byte);
      small = omega (arith, t.value);
      some = omega arith;
      few = omega arith;
      value =
          x ∙ taken-up src (s.value / 256) a n s.value (omega arith) (bytes a) w
          ∙ ap (λ (k : ℕ). (s.value / 256 * 2 ^ (8 - n) + bits src k (8 - n)) * 2 ^ (48 + n)) (sym p)
          ∙ ap (λ (k : ℕ). (s.value / 256 * 2 ^ k + bits src (8 * (s.at - 2) + n + 8) k) * 2 ^ (48 + n)) (sym q.0)
          ∙ ap (λ (k : ℕ). (s.value / 256 * 2 ^ (16 - n % 8 - 8) + bits src (8 * (s.at - 2) + n + 8) (16 - n % 8 - 8)) * 2 ^ k) (sym q.1);
      before = (let y : 8 * s.at ≤ 8 * (s.at - 2) + n + (16 - n % 8) = omega (arith, z) in y);
      exact = λ l. z;
    }

-- the two bytes out of the bits held
module _ (src : List ℕ) (c : Coder) (h count : ℕ) (l : 33 ≤ h) (f : h ≤ 64) (small : c.value < 256) (is : count ≡ c.place % 8) (byte : get_or src (1 + c.place / 8) 0 < 256) where
  y : ℕ
  y = bits src (c.place + 8) (8 - count)

  z : ℕ
  z = bits src (c.place + 8 + (8 - count)) (h - (8 - count) - 8)

  w : ℕ
  w = c.value * 2 ^ (8 - count) + y

  under : count < 8
  under = omega arith

  value-parts : ahead src c (h - 8) * 2 ^ (64 - h) ≡ w * 2 ^ (48 + count) + z * 2 ^ (64 - h)
  unfolding y z w
  value-parts =
      let k : ℕ = h - (8 - count) - 8 in
      let e : k + (64 - h) ≡ 48 + count = omega (arith, under) in
      let p : 2 ^ k * 2 ^ (64 - h) ≡ 2 ^ (48 + count) = sym (pow-add 2 k (64 - h)) ∙ ap (λ (i : ℕ). 2 ^ i) e in
      let x : ℕ = c.value * 2 ^ (8 - count) + bits src (c.place + 8) (8 - count) in
      ap (λ (i : ℕ). i * 2 ^ (64 - h)) (ahead-parts src c.value c.range c.place h (8 - count) (omega arith) f)
      ∙ add-mul (x * 2 ^ k) (bits src (c.place + 8 + (8 - count)) k) (2 ^ (64 - h))
      ∙ ap (λ (i : ℕ). i + bits src (c.place + 8 + (8 - count)) k * 2 ^ (64 - h)) (mul_assoc x (2 ^ k) (2 ^ (64 - h)) ∙ ap (λ (i : ℕ). x * i) p)

  low_small : z * 2 ^ (64 - h) < 2 ^ (48 + count)
  unfolding z
  low_small =
      let k : ℕ = h - (8 - count) - 8 in
      let b : ℕ = bits src (c.place + 8 + (8 - count)) k in
      let e : k + (64 - h) ≡ 48 + count = omega (arith, under) in
      let p : 2 ^ k * 2 ^ (64 - h) ≡ 2 ^ (48 + count) = sym (pow-add 2 k (64 - h)) ∙ ap (λ (i : ℕ). 2 ^ i) e in
      let s : b + 1 ≤ 2 ^ k = omega (arith, bits_small src (c.place + 8 + (8 - count)) k) in
      omega (arith, mul-le-mul_right (2 ^ (64 - h)) s, add-mul b 1 (2 ^ (64 - h)), one-mul (2 ^ (64 - h)), pow_pos (64 - h))

  put-down : (v : ℕ) → v ≡ ahead src c (h - 8) * 2 ^ (64 - h)
      → v / 2 ^ (48 + count) * 2 ^ count % 18446744073709551616 ≡ c.value * 256 + get_or src (1 + c.place / 8) 0 * 2 ^ (c.place % 8) % 256
  unfolding y w
  put-down v e =
      let q : v / 2 ^ (48 + count) ≡ w
      = ap (λ (i : ℕ). i / 2 ^ (48 + count)) (e ∙ value-parts)
      ∙ mul-add-div_right (pow_pos (48 + count)) w (z * 2 ^ (64 - h))
      ∙ ap (λ (i : ℕ). w + i) (div-eq_of_lt low_small)
      ∙ (let k : w + 0 ≡ w = omega arith in k) in
      let a : ℕ = 1 + c.place / 8 in
      let g : 8 * a + count ≡ c.place + 8 = omega arith in
      let r : get_or src a 0 * 2 ^ count % 256 ≡ y * 2 ^ count
      = byte-rest src a count under byte ∙ ap (λ (i : ℕ). bits src i (8 - count) * 2 ^ count) g in
      let u : w * 2 ^ count ≡ c.value * 256 + get_or src a 0 * 2 ^ count % 256
      = two_bytes c.value y count under ∙ ap (λ (i : ℕ). c.value * 256 + i) (sym r) in
      let s : w * 2 ^ count < 18446744073709551616 = omega arith in
      ap (λ (i : ℕ). i * 2 ^ count % 18446744073709551616) q ∙ mod-eq_of_lt s ∙ u
      ∙ ap (λ (i : ℕ). c.value * 256 + get_or src a 0 * 2 ^ i % 256) is

module _ (src : List ℕ) (bytes : (i : ℕ) → get_or src i 0 < 256) (e : BoolDecoder) (c : Coder) (holds : Holds src e c) (l : 33 ≤ e.held)
    (u w : ℕ) (us : u < 4294967296) (ws : w < 18446744073709551616) (near : e.at < 18446744073709551616)
    (ue : (u + 16) % 4294967296 ≡ e.held)
    (we : (w + (u + (64 - e.held % 64) % 8) / 8) % 18446744073709551616 ≡ e.at) where
  count-is : 8 * e.at ≡ c.place + e.held → (64 - e.held % 64) % 8 ≡ c.place % 8
  count-is x = count_law e.held e.at c.place holds.few x

  pub saves-is : past src c ≡ false
      → saved w e.range (e.value / 2 ^ (48 + (64 - e.held % 64) % 8) * 2 ^ ((64 - e.held % 64) % 8) % 18446744073709551616) ((64 - e.held % 64) % 8) ≡ state_of src c
  unfolding state_of
  saves-is p =
      let q : 2 + c.place / 8 ≤ length src = ltb-false (length src) (2 + c.place / 8) p in
      let x : 8 * e.at ≡ c.place + e.held = holds.exact (omega (arith, holds.before, holds.few)) in
      let n : ℕ = (64 - e.held % 64) % 8 in
      let k : n ≡ c.place % 8 = count-is x in
      let a : w ≡ 2 + c.place / 8
      = at-law e.held e.at c.place u w l holds.few near ws us x ue (ap (λ (i : ℕ). (w + (u + i) / 8) % 18446744073709551616) (sym k) ∙ we) in
      same-saved a holds.range
      (put-down src c e.held n l holds.few holds.small k (bytes (1 + c.place / 8)) e.value holds.value)
      k

  pub saves-over : past src c ≡ true → length src < 9223372036854775808 → length src < w
  saves-over p ls = go (ltb e.at (length src + 8)) refl
    where
      q : length src < 2 + c.place / 8
      q = ltb-true (length src) (2 + c.place / 8) p

      go : (t : Bool) → ltb e.at (length src + 8) ≡ t → length src < w
      go true y =
          let x : 8 * e.at ≡ c.place + e.held = holds.exact (ltb-true e.at (length src + 8) y) in
          omega (arith, holds.few, q)
      go false y = omega (arith, holds.few, ltb-false e.at (length src + 8) y)
