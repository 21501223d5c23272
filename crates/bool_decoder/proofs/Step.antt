-- One bool of a decoder is read_bool of the Coder that it holds. Assumes nothing.
use Rattle.std.proofs.Common.{◌≡◌, ℕ, ◌+◌, ◌-◌, ◌*◌, ◌%◌, ◌^◌, ◌<◌, ◌≤◌, Bool, true, false, ltb, leb, List, sym, refl, ap, ◌∙◌, subst, mul-le-mul_right, mul_assoc, add-mul, mul-le-mul_left, one-mul, arith, pow_pos, pow_mono, pow-add, ltb-false, ltb-true, le-leb, leb-false, leb-true}
use borrow.Author.Tests.{lt-leb}
use Rattle.lists.specs.Lists.{pick}
use Rattle.bool_decoder.specs.BoolCoder.{Coder, Got, read_bool, renewed, split_of, upper, lower}
use Rattle.bool_decoder.specs.Held.{Holds, Went, bits, ahead}
use Rattle.bool_decoder.specs.Inside.{Shifts, Splits, Split, Renews}
use Rattle.bool_decoder.specs.declared.BoolDecoder.{BoolDecoder}
use Rattle.bool_decoder.proofs.Bits.{bits_small}
use Rattle.bool_decoder.proofs.Shift.{coder, down, renewed-is, shift-value}

-- the eight bits that are compared stand at the top
module _ (src : List ℕ) (p h : ℕ) (some : 8 ≤ h) (few : h ≤ 64) where
  pub rest : ℕ
  rest = bits src (p + 8) (h - 8) * 2 ^ (64 - h)

  top : 2 ^ (h - 8) * 2 ^ (64 - h) ≡ 72057594037927936
  top = let e : h - 8 + (64 - h) ≡ 56 = omega arith in sym (pow-add 2 (h - 8) (64 - h)) ∙ ap (λ (i : ℕ). 2 ^ i) e

  pub rest-small : rest < 72057594037927936
  unfolding rest
  rest-small =
      let b : ℕ = bits src (p + 8) (h - 8) in
      omega (
        arith,
        top,
        mul-le-mul_right {m = b + 1} {n = 2 ^ (h - 8)} (2 ^ (64 - h)) (omega (arith, bits_small src (p + 8) (h - 8))),
        add-mul b 1 (2 ^ (64 - h)),
        one-mul (2 ^ (64 - h)),
        pow_pos (64 - h),
      )

  pub ahead-top : (v r : ℕ) → ahead src (coder v r p) (h - 8) * 2 ^ (64 - h) ≡ v * 72057594037927936 + rest
  unfolding ahead rest
  ahead-top v r =
      let b : ℕ = bits src (p + 8) (h - 8) in
      let x : v * 2 ^ (h - 8) * 2 ^ (64 - h) ≡ v * 72057594037927936 = mul_assoc v (2 ^ (h - 8)) (2 ^ (64 - h)) ∙ ap (λ (i : ℕ). v * i) top in
      add-mul (v * 2 ^ (h - 8)) b (2 ^ (64 - h)) ∙ ap (λ (i : ℕ). i + b * 2 ^ (64 - h)) x

-- after a bool: what is left of value and range is shifted up
module _ (src : List ℕ) (d : BoolDecoder) (c : Coder) (holds : Holds src d c) (most : ℕ) (room : 8 + most ≤ d.held) where
  pub went : (v r x : ℕ) (q : BoolDecoder) → v < 256 → 0 < r → r < 256
      → x ≡ ahead src (coder v r c.place) (d.held - 8) * 2 ^ (64 - d.held)
      → (n : Renews x r d.held d.at q) → n.by ≤ most
      → Went src d q most (renewed 7 src (coder v r c.place))
  went v r x q small some byte is n by =
      let s : ℕ = n.by in
      let sh : Shifts r n.by = n.shifts some byte in
      let h : q.held ≡ d.held - n.by = n.held (omega (arith, holds.some)) in
      let fw : d.held ≤ 64 = holds.few in
      subst (Went src d q most) (sym (renewed-is n.by src (coder v r c.place) small sh))
      (record {
        holds =
            record {
              range = n.range some byte;
              high = sh.high;
              byte = sh.byte;
              small = omega arith;
              some = omega arith;
              few = omega arith;
              value =
                  n.value
                  ∙ ap (λ (i : ℕ). i * 2 ^ n.by % 18446744073709551616) is
                  ∙ shift-value src v r c.place d.held n.by (omega arith) fw
                  ∙ ap (λ (i : ℕ). ahead src (down src n.by (coder v r c.place)) (i - 8) * 2 ^ (64 - i)) (sym h);
              before = omega (arith, holds.before, n.at);
              exact = λ l. let y : 8 * d.at ≡ c.place + d.held = holds.exact (omega (arith, n.at)) in omega (arith, n.at);
            };
        held = omega arith;
      })

-- the number of shifts stays what it is when the range is named otherwise
by-same : {x y z h a m : ℕ} {q : BoolDecoder} (n : Renews x y h a q) (e : y ≡ z) → n.by ≤ m → (subst (λ (i : ℕ). Renews x i h a q) e n).by ≤ m
by-same n _ b = b

by-same' : {x y z h a m : ℕ} {q : BoolDecoder} (n : Renews x y h a q) (e : x ≡ z) → n.by ≤ m → (subst (λ (i : ℕ). Renews i y h a q) e n).by ≤ m
by-same' n _ b = b

-- a range of 64 or more is shifted once at most
once : (y b : ℕ) → 64 ≤ y → y * 2 ^ b < 256 → b ≤ 1
once y b h l = go (ltb b 2) refl
  where
    go : (t : Bool) → ltb b 2 ≡ t → b ≤ 1
    go true e = let z : b < 2 = ltb-true b 2 e in omega arith
    go false e = absurd (omega (arith, mul-le-mul_left y (pow_mono {i = 2} {j = b} (ltb-false b 2 e))))

module _ (src : List ℕ) (prob : ℕ) (c : Coder) where
  pub read_one : split_of c.range prob ≤ c.value → read_bool src prob c ≡ record { got = true; next = renewed 7 src (upper prob c) }
  unfolding read_bool
  read_one h = rw (le-leb (split_of c.range prob) c.value h)

  pub read-zero : c.value < split_of c.range prob → read_bool src prob c ≡ record { got = false; next = renewed 7 src (lower prob c) }
  unfolding read_bool
  read-zero h = rw (lt-leb (split_of c.range prob) c.value h)

-- the comparison at the top of 64 bits
module _ (src : List ℕ) (d : BoolDecoder) (c : Coder) (holds : Holds src d c) (prob k : ℕ) (split : Split d.range prob k) where
  splits : Splits c.range prob k
  splits = subst (λ (i : ℕ). Splits i prob k) holds.range (split.is (omega (arith, holds.range, holds.high)) (omega (arith, holds.range, holds.byte)))

  below : ℕ
  below = rest src c.place d.held holds.some holds.few

  is-top : d.value ≡ c.value * 72057594037927936 + below
  unfolding below
  is-top = holds.value ∙ ahead-top src c.place d.held holds.some holds.few c.value c.range

  below-small : below < 72057594037927936
  unfolding below
  below-small = rest-small src c.place d.held holds.some holds.few

  big : k * 72057594037927936 % 18446744073709551616 ≡ k * 72057594037927936
  big = omega (arith, splits.below, holds.byte)

  pub reaches : k * 72057594037927936 % 18446744073709551616 ≤ d.value → split_of c.range prob ≤ c.value
  reaches h = omega (arith, big, is-top, below-small, splits.is)

  pub misses : d.value < k * 72057594037927936 % 18446744073709551616 → c.value < split_of c.range prob
  misses h = omega (arith, big, is-top, below-small, splits.is)

  pub one-is : leb (k * 72057594037927936 % 18446744073709551616) d.value ≡ (read_bool src prob c).got
  one-is = go (leb (k * 72057594037927936 % 18446744073709551616) d.value) refl
    where
      go : (t : Bool) → leb (k * 72057594037927936 % 18446744073709551616) d.value ≡ t → leb (k * 72057594037927936 % 18446744073709551616) d.value ≡ (read_bool src prob c).got
      go true e =
          e ∙ sym (ap (λ (x : Got Bool). x.got) (read_one src prob c (reaches (leb-true (k * 72057594037927936 % 18446744073709551616) d.value e))))
      go false e =
          e ∙ sym (ap (λ (x : Got Bool). x.got) (read-zero src prob c (misses (leb-false (k * 72057594037927936 % 18446744073709551616) d.value e))))

  -- the decoder above the split
  module _ (most : ℕ) (room : 8 + most ≤ d.held) (q : BoolDecoder) where
    pub up : (x y : ℕ) → x < 18446744073709551616 → y < 4294967296
        → (x + k * 72057594037927936 % 18446744073709551616) % 18446744073709551616 ≡ d.value → (y + k) % 4294967296 ≡ d.range
        → (read_bool src prob c).got ≡ true → (n : Renews x y d.held d.at q) → n.by ≤ most
        → Went src d q most (read_bool src prob c).next
    unfolding below
    up x y xs ys xe ye g n by = go (leb (split_of c.range prob) c.value) refl
      where
        go : (t : Bool) → leb (split_of c.range prob) c.value ≡ t → Went src d q most (read_bool src prob c).next
        go false e =
            let z : c.value < split_of c.range prob = leb-false (split_of c.range prob) c.value e in
            let w : ◌≡◌ {A = Bool} true false = sym g ∙ ap (λ (x : Got Bool). x.got) (read-zero src prob c z) in
            let v : ◌≡◌ {A = ℕ} 0 1 = ap (λ (b : Bool). pick b 0 1) w in
            absurd (omega arith)
        go true e =
            let z : split_of c.range prob ≤ c.value = leb-true (split_of c.range prob) c.value e in
            let ke : k ≡ split_of c.range prob = splits.is in
            let yv : y ≡ c.range - split_of c.range prob = omega (arith, splits.below, holds.range, holds.byte) in
            let sm : c.value < 256 = holds.small in
            let xv : x ≡ (c.value - split_of c.range prob) * 72057594037927936 + below = omega (arith, big, is-top, below-small) in
            subst (λ (i : Coder). Went src d q most i) (sym (ap (λ (i : Got Bool). i.next) (read_one src prob c z)))
            (went src d c holds most room (c.value - split_of c.range prob) (c.range - split_of c.range prob) x q
            (omega arith) (omega (arith, splits.below)) (omega (arith, holds.byte))
            (xv ∙ sym (ahead-top src c.place d.held holds.some holds.few (c.value - split_of c.range prob) (c.range - split_of c.range prob)))
            (subst (λ (i : ℕ). Renews x i d.held d.at q) yv n) (by-same n yv by))

    pub down_to : (read_bool src prob c).got ≡ false → (n : Renews d.value k d.held d.at q) → n.by ≤ most
        → Went src d q most (read_bool src prob c).next
    unfolding below
    down_to g n by = go (leb (split_of c.range prob) c.value) refl
      where
        go : (t : Bool) → leb (split_of c.range prob) c.value ≡ t → Went src d q most (read_bool src prob c).next
        go true e =
            let z : split_of c.range prob ≤ c.value = leb-true (split_of c.range prob) c.value e in
            let w : ◌≡◌ {A = Bool} false true = sym g ∙ ap (λ (x : Got Bool). x.got) (read_one src prob c z) in
            let v : ◌≡◌ {A = ℕ} 1 0 = ap (λ (b : Bool). pick b 0 1) w in
            absurd (omega arith)
        go false e =
            let z : c.value < split_of c.range prob = leb-false (split_of c.range prob) c.value e in
            subst (λ (i : Coder). Went src d q most i) (sym (ap (λ (i : Got Bool). i.next) (read-zero src prob c z)))
            (went src d c holds most room c.value (split_of c.range prob) d.value q
            holds.small (omega arith) (omega (arith, splits.is, splits.below, holds.byte))
            (is-top ∙ sym (ahead-top src c.place d.held holds.some holds.few c.value (split_of c.range prob)))
            (subst (λ (i : ℕ). Renews d.value i d.held d.at q) splits.is n) (by-same n splits.is by))

    -- either, by the bool
    pub took : (bit : Bool) → bit ≡ (read_bool src prob c).got → (x w : ℕ) → x < 18446744073709551616 → w < 4294967296
        → (x + pick bit (k * 72057594037927936 % 18446744073709551616) 0) % 18446744073709551616 ≡ d.value → (w + k) % 4294967296 ≡ d.range
        → (n : Renews x (pick bit w k) d.held d.at q) → n.by ≤ most → Went src d q most (read_bool src prob c).next
    took true g x w xs ws xe we n by = up x w xs ws xe we (sym g) n by
    took false g x w xs ws xe we n by =
        let e : x ≡ d.value = omega arith in
        down_to (sym g) (subst (λ (i : ℕ). Renews i k d.held d.at q) e n) (by-same' n e by)

  wide-half : prob ≡ 128 → (bit : Bool) (w : ℕ) → w < 4294967296 → (w + k) % 4294967296 ≡ d.range → 64 ≤ pick bit w k
  wide-half e true w ws we =
      let s : k ≡ split_of c.range 128 = splits.is ∙ ap (split_of c.range) e in
      omega (arith, holds.range, holds.high, holds.byte)
  wide-half e false w ws we =
      let s : k ≡ split_of c.range 128 = splits.is ∙ ap (split_of c.range) e in
      omega (arith, holds.range, holds.high, holds.byte)

  thin : (bit : Bool) (w : ℕ) → w < 4294967296 → (w + k) % 4294967296 ≡ d.range → (0 < pick bit w k) × (pick bit w k < 256)
  thin true w ws we = (omega (arith, splits.below, holds.range, holds.byte), omega (arith, splits.below, holds.range, holds.byte))
  thin false w ws we = (splits.some, omega (arith, splits.below, holds.byte))

  -- a sign shifts once at most
  pub sign-by : prob ≡ 128 → (bit : Bool) (x w h a : ℕ) (q : BoolDecoder) → w < 4294967296 → (w + k) % 4294967296 ≡ d.range
      → (n : Renews x (pick bit w k) h a q) → n.by ≤ 1
  sign-by e bit x w h a q ws we n =
      let t = thin bit w ws we in
      once (pick bit w k) n.by (wide-half e bit w ws we) (n.shifts t.0 t.1).byte
