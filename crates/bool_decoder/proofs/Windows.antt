-- The RFC's listing and BoolCoder read the same, and are past the end together, in every partition that an encoder can have written:
-- one whose first byte is not 255. So no bit is ever lost in one, and 16 bits of value are enough. Assumes nothing.
use Rattle.std.proofs.Common.{◌≡◌, ℕ, zero, suc, ◌+◌, ◌-◌, ◌*◌, ◌/◌, ◌%◌, ◌^◌, ◌<◌, ◌≤◌, Bool, true, false, eqb, ltb, leb, List, get_or, sym, refl, ap, ◌∙◌, mul_comm, mul-le-mul_left, arith, ltb-true, eqb-true, le-leb, leb-false, leb-true}
use native.Mathlib.Nat.{div-div-eq-div-mul}
use lib.Bits.{bit_or, or_shifted}
use borrow.Author.Tests.{lt-leb, eqb-false}
use Rattle.lists.specs.Lists.{pick}
use Rattle.bool_decoder.specs.BoolCoder.{Coder, Got, bit_at, opened, shifted, renewed, read_bool, split_of, upper, lower, loaded, past, Reads, done, ask, ran}
use Rattle.bool_decoder.specs.Rfc.{Window, window, Told, shifted_rfc, normal, read_rfc, start_rfc, past_rfc, ran_rfc}

-- the window on a partition that a Coder is
abbrev pub shown_at : List ℕ → ℕ → ℕ
shown_at src p = get_or src (1 + p / 8) 0 * 2 ^ (p % 8) % 256

abbrev pub window_of : List ℕ → Coder → Window
window_of src c = window (c.value * 256 + shown_at src c.place) c.range (c.place % 8) (loaded c)

same-window : {v v' r r' c c' a a' : ℕ} → v ≡ v' → r ≡ r' → c ≡ c' → a ≡ a' → window v r c a ≡ window v' r' c' a'
same-window p q r s = cc

eight : (P : ℕ → Type 0) → P 0 → P 1 → P 2 → P 3 → P 4 → P 5 → P 6 → P 7 → (n : ℕ) → n < 8 → P n
eight P a b c d e f g h zero l = a
eight P a b c d e f g h (suc zero) l = b
eight P a b c d e f g h (suc (suc zero)) l = c
eight P a b c d e f g h (suc (suc (suc zero))) l = d
eight P a b c d e f g h (suc (suc (suc (suc zero)))) l = e
eight P a b c d e f g h (suc (suc (suc (suc (suc zero))))) l = f
eight P a b c d e f g h (suc (suc (suc (suc (suc (suc zero)))))) l = g
eight P a b c d e f g h (suc (suc (suc (suc (suc (suc (suc zero))))))) l = h
eight P a b c d e f g h (suc (suc (suc (suc (suc (suc (suc (suc n)))))))) l = absurd (omega arith)

mods : (q s : ℕ) → s < 256 → (q * 256 + s) % 256 ≡ s
mods q s h = omega arith

-- one more bit shifted out of a byte
half-0 : (b : ℕ) → b * 1 % 256 * 2 ≡ b / 128 % 2 * 256 + b * 2 % 256
half-0 b =
    let x : b * 1 % 256 ≡ b % 256 * 1 = ap (λ (i : ℕ). i % 256) (let e : b * 1 ≡ b / 256 * 256 + b % 256 * 1 = omega arith in e) ∙ mods (b / 256) (b % 256 * 1) (omega arith) in
    let y : b * 2 % 256 ≡ b % 128 * 2 = ap (λ (i : ℕ). i % 256) (let e : b * 2 ≡ b / 128 * 256 + b % 128 * 2 = omega arith in e) ∙ mods (b / 128) (b % 128 * 2) (omega arith) in
    let z : b % 256 ≡ b / 128 % 2 * 128 + b % 128 = omega (arith, div-div-eq-div-mul b 128 2) in
    omega arith

half-1 : (b : ℕ) → b * 2 % 256 * 2 ≡ b / 64 % 2 * 256 + b * 4 % 256
half-1 b =
    let x : b * 2 % 256 ≡ b % 128 * 2 = ap (λ (i : ℕ). i % 256) (let e : b * 2 ≡ b / 128 * 256 + b % 128 * 2 = omega arith in e) ∙ mods (b / 128) (b % 128 * 2) (omega arith) in
    let y : b * 4 % 256 ≡ b % 64 * 4 = ap (λ (i : ℕ). i % 256) (let e : b * 4 ≡ b / 64 * 256 + b % 64 * 4 = omega arith in e) ∙ mods (b / 64) (b % 64 * 4) (omega arith) in
    let z : b % 128 ≡ b / 64 % 2 * 64 + b % 64 = omega (arith, div-div-eq-div-mul b 64 2) in
    omega arith

half-2 : (b : ℕ) → b * 4 % 256 * 2 ≡ b / 32 % 2 * 256 + b * 8 % 256
half-2 b =
    let x : b * 4 % 256 ≡ b % 64 * 4 = ap (λ (i : ℕ). i % 256) (let e : b * 4 ≡ b / 64 * 256 + b % 64 * 4 = omega arith in e) ∙ mods (b / 64) (b % 64 * 4) (omega arith) in
    let y : b * 8 % 256 ≡ b % 32 * 8 = ap (λ (i : ℕ). i % 256) (let e : b * 8 ≡ b / 32 * 256 + b % 32 * 8 = omega arith in e) ∙ mods (b / 32) (b % 32 * 8) (omega arith) in
    let z : b % 64 ≡ b / 32 % 2 * 32 + b % 32 = omega (arith, div-div-eq-div-mul b 32 2) in
    omega arith

half-3 : (b : ℕ) → b * 8 % 256 * 2 ≡ b / 16 % 2 * 256 + b * 16 % 256
half-3 b =
    let x : b * 8 % 256 ≡ b % 32 * 8 = ap (λ (i : ℕ). i % 256) (let e : b * 8 ≡ b / 32 * 256 + b % 32 * 8 = omega arith in e) ∙ mods (b / 32) (b % 32 * 8) (omega arith) in
    let y : b * 16 % 256 ≡ b % 16 * 16 = ap (λ (i : ℕ). i % 256) (let e : b * 16 ≡ b / 16 * 256 + b % 16 * 16 = omega arith in e) ∙ mods (b / 16) (b % 16 * 16) (omega arith) in
    let z : b % 32 ≡ b / 16 % 2 * 16 + b % 16 = omega (arith, div-div-eq-div-mul b 16 2) in
    omega arith

half-4 : (b : ℕ) → b * 16 % 256 * 2 ≡ b / 8 % 2 * 256 + b * 32 % 256
half-4 b =
    let x : b * 16 % 256 ≡ b % 16 * 16 = ap (λ (i : ℕ). i % 256) (let e : b * 16 ≡ b / 16 * 256 + b % 16 * 16 = omega arith in e) ∙ mods (b / 16) (b % 16 * 16) (omega arith) in
    let y : b * 32 % 256 ≡ b % 8 * 32 = ap (λ (i : ℕ). i % 256) (let e : b * 32 ≡ b / 8 * 256 + b % 8 * 32 = omega arith in e) ∙ mods (b / 8) (b % 8 * 32) (omega arith) in
    let z : b % 16 ≡ b / 8 % 2 * 8 + b % 8 = omega (arith, div-div-eq-div-mul b 8 2) in
    omega arith

half-5 : (b : ℕ) → b * 32 % 256 * 2 ≡ b / 4 % 2 * 256 + b * 64 % 256
half-5 b =
    let x : b * 32 % 256 ≡ b % 8 * 32 = ap (λ (i : ℕ). i % 256) (let e : b * 32 ≡ b / 8 * 256 + b % 8 * 32 = omega arith in e) ∙ mods (b / 8) (b % 8 * 32) (omega arith) in
    let y : b * 64 % 256 ≡ b % 4 * 64 = ap (λ (i : ℕ). i % 256) (let e : b * 64 ≡ b / 4 * 256 + b % 4 * 64 = omega arith in e) ∙ mods (b / 4) (b % 4 * 64) (omega arith) in
    let z : b % 8 ≡ b / 4 % 2 * 4 + b % 4 = omega (arith, div-div-eq-div-mul b 4 2) in
    omega arith

half-6 : (b : ℕ) → b * 64 % 256 * 2 ≡ b / 2 % 2 * 256 + b * 128 % 256
half-6 b =
    let x : b * 64 % 256 ≡ b % 4 * 64 = ap (λ (i : ℕ). i % 256) (let e : b * 64 ≡ b / 4 * 256 + b % 4 * 64 = omega arith in e) ∙ mods (b / 4) (b % 4 * 64) (omega arith) in
    let y : b * 128 % 256 ≡ b % 2 * 128 = ap (λ (i : ℕ). i % 256) (let e : b * 128 ≡ b / 2 * 256 + b % 2 * 128 = omega arith in e) ∙ mods (b / 2) (b % 2 * 128) (omega arith) in
    let z : b % 4 ≡ b / 2 % 2 * 2 + b % 2 = omega (arith, div-div-eq-div-mul b 2 2) in
    omega arith

half-7 : (b : ℕ) → b * 128 % 256 * 2 ≡ b / 1 % 2 * 256 + b * 256 % 256
half-7 b =
    let x : b * 128 % 256 ≡ b % 2 * 128 = ap (λ (i : ℕ). i % 256) (let e : b * 128 ≡ b / 2 * 256 + b % 2 * 128 = omega arith in e) ∙ mods (b / 2) (b % 2 * 128) (omega arith) in
    let y : b * 256 % 256 ≡ b % 1 * 256 = ap (λ (i : ℕ). i % 256) (let e : b * 256 ≡ b / 1 * 256 + b % 1 * 256 = omega arith in e) ∙ mods (b / 1) (b % 1 * 256) (omega arith) in
    let z : b % 2 ≡ b / 1 % 2 * 1 + b % 1 = omega (arith, div-div-eq-div-mul b 1 2) in
    omega arith

halves : (b : ℕ) → b < 256 → (n : ℕ) → n < 8 → b * 2 ^ n % 256 * 2 ≡ b / 2 ^ (7 - n) % 2 * 256 + b * 2 ^ (n + 1) % 256
halves b l =
    eight (λ n. b * 2 ^ n % 256 * 2 ≡ b / 2 ^ (7 - n) % 2 * 256 + b * 2 ^ (n + 1) % 256)
    (half-0 b) (half-1 b) (half-2 b) (half-3 b) (half-4 b) (half-5 b) (half-6 b) (half-7 b)

module _ (src : List ℕ) (bytes : (i : ℕ) → get_or src i 0 < 256) where
  bit_is : (p : ℕ) → bit_at src (p + 8) ≡ get_or src (1 + p / 8) 0 / 2 ^ (7 - p % 8) % 2
  unfolding bit_at
  bit_is p =
      let e : (p + 8) / 8 ≡ 1 + p / 8 = omega arith in
      let f : (p + 8) % 8 ≡ p % 8 = omega arith in
      rw (e, f)

  under-eight : (p : ℕ) → p % 8 < 8
  under-eight p = omega arith

  -- two bytes, doubled
  twice : (v p : ℕ) → v < 128 → (v * 256 + shown_at src p) * 2 % 4294967296 ≡ (v * 2 % 256 + bit_at src (p + 8)) * 256 + get_or src (1 + p / 8) 0 * 2 ^ (p % 8 + 1) % 256
  twice v p h =
      let b : ℕ = get_or src (1 + p / 8) 0 in
      let x = halves b (bytes (1 + p / 8)) (p % 8) (under-eight p) in
      omega (arith, bit_is p)

  -- one turn of the loop
  turn : (c : Coder) → c.value < 128 → shifted_rfc src (window_of src c) ≡ window_of src (shifted src c)
  unfolding shifted_rfc
  turn c h = go (eqb (c.place % 8 + 1) 8) refl
    where
      go : (t : Bool) → eqb (c.place % 8 + 1) 8 ≡ t
          → pick t (window (bit_or ((c.value * 256 + shown_at src c.place) * 2 % 4294967296) (get_or src (loaded c) 0)) (c.range * 2) 0 (loaded c + 1))
          (window ((c.value * 256 + shown_at src c.place) * 2 % 4294967296) (c.range * 2) (c.place % 8 + 1) (loaded c))
          ≡ window_of src (shifted src c)
      go true e =
          let p : ℕ = c.place in
          let n : p % 8 + 1 ≡ 8 = eqb-true (p % 8 + 1) 8 e in
          let x : (p + 1) % 8 ≡ 0 = omega arith in
          let y : 1 + (p + 1) / 8 ≡ 2 + p / 8 = omega arith in
          let w : ℕ = c.value * 2 % 256 + bit_at src (p + 8) in
          let z : (c.value * 256 + shown_at src p) * 2 % 4294967296 ≡ w * 256
          = twice c.value p h ∙ ap (λ (i : ℕ). w * 256 + get_or src (1 + p / 8) 0 * 2 ^ i % 256) n ∙ (let q : w * 256 + get_or src (1 + p / 8) 0 * 256 % 256 ≡ w * 256 = omega arith in q) in
          let s : shown_at src (p + 1) ≡ get_or src (2 + p / 8) 0
          = ap (λ (i : ℕ). get_or src (1 + (p + 1) / 8) 0 * 2 ^ i % 256) x ∙ ap (λ (i : ℕ). get_or src i 0 * 1 % 256) y
          ∙ (let q : get_or src (2 + p / 8) 0 * 1 % 256 ≡ get_or src (2 + p / 8) 0 = omega (arith, bytes (2 + p / 8)) in q) in
          same-window
          (ap (λ (i : ℕ). bit_or i (get_or src (2 + p / 8) 0)) z ∙ or_shifted w 8 (get_or src (2 + p / 8) 0) (bytes (2 + p / 8)) ∙ ap (λ (i : ℕ). w * 256 + i) (sym s))
          refl (sym x) (let q : 2 + p / 8 + 1 ≡ 2 + (p + 1) / 8 = omega arith in q)
      go false e =
          let p : ℕ = c.place in
          let d : p % 8 + 1 ≡ 8 → ⊥ = eqb-false (p % 8 + 1) 8 e in
          let l : p % 8 + 1 < 8 = omega (arith, d, under-eight p) in
          let x : (p + 1) % 8 ≡ p % 8 + 1 = omega arith in
          let y : 1 + (p + 1) / 8 ≡ 1 + p / 8 = omega arith in
          let w : ℕ = c.value * 2 % 256 + bit_at src (p + 8) in
          let s : shown_at src (p + 1) ≡ get_or src (1 + p / 8) 0 * 2 ^ (p % 8 + 1) % 256
          = ap (λ (i : ℕ). get_or src (1 + (p + 1) / 8) 0 * 2 ^ i % 256) x ∙ ap (λ (i : ℕ). get_or src i 0 * 2 ^ (p % 8 + 1) % 256) y in
          same-window (twice c.value p h ∙ ap (λ (i : ℕ). w * 256 + i) (sym s)) refl (sym x) (let q : 2 + p / 8 ≡ 2 + (p + 1) / 8 = omega arith in q)

  bit-small : (k : ℕ) → bit_at src k < 2
  unfolding bit_at
  bit-small k = omega arith

  -- the loop: the value stays below the range
  turns : (k : ℕ) (c : Coder) → c.value < c.range → c.range < 256
      → (normal k src (window_of src c) ≡ window_of src (renewed k src c)) × ((renewed k src c).value < (renewed k src c).range) × ((renewed k src c).range < 256)
  unfolding normal renewed
  turns zero c h l = (refl, h, l)
  turns (suc k) c h l = go (ltb c.range 128) refl (turns k)
    where
      go : (t : Bool) → ltb c.range 128 ≡ t
          → ((x : Coder) → x.value < x.range → x.range < 256
          → (normal k src (window_of src x) ≡ window_of src (renewed k src x)) × ((renewed k src x).value < (renewed k src x).range) × ((renewed k src x).range < 256))
          → (pick t (normal k src (shifted_rfc src (window_of src c))) (window_of src c) ≡ window_of src (pick t (renewed k src (shifted src c)) c))
          × ((pick t (renewed k src (shifted src c)) c).value < (pick t (renewed k src (shifted src c)) c).range)
          × ((pick t (renewed k src (shifted src c)) c).range < 256)
      go false e more = (refl, h, l)
      go true e more =
          let r : c.range < 128 = ltb-true c.range 128 e in
          let x = more (shifted src c) (omega (arith, bit-small (c.place + 8))) (omega arith) in
          (ap (normal k src) (turn c (omega arith)) ∙ x.0, x.1, x.2)

  abbrev gotten : Bool → Coder → Got Bool
  gotten b c = record { got = b; next = c }

  abbrev told : Bool → Window → Told Bool
  told b w = record { got = b; next = w }

  pub read-window : (p : ℕ) (c : Coder) → p < 256 → c.value < c.range → c.range < 256
      → (read_rfc src p (window_of src c) ≡ told (read_bool src p c).got (window_of src (read_bool src p c).next))
      × ((read_bool src p c).next.value < (read_bool src p c).next.range) × ((read_bool src p c).next.range < 256)
  unfolding read_rfc read_bool
  read-window p c pl h l = go (leb (split_of c.range p) c.value) refl
    where
      s : ℕ
      s = split_of c.range p

      below : split_of c.range p ≤ c.range
      below = omega (arith, mul-le-mul_left {m = p} {n = 255} (c.range - 1) (omega arith), mul_comm (c.range - 1) 255)

      go : (t : Bool) → leb (split_of c.range p) c.value ≡ t
          → (pick (leb (split_of c.range p * 256) (c.value * 256 + shown_at src c.place))
          (told true (normal 7 src (window (c.value * 256 + shown_at src c.place - split_of c.range p * 256) (c.range - split_of c.range p) (c.place % 8) (loaded c))))
          (told false (normal 7 src (window (c.value * 256 + shown_at src c.place) (split_of c.range p) (c.place % 8) (loaded c))))
          ≡ told (pick t (gotten true (renewed 7 src (upper p c))) (gotten false (renewed 7 src (lower p c)))).got
          (window_of src (pick t (gotten true (renewed 7 src (upper p c))) (gotten false (renewed 7 src (lower p c)))).next))
          × ((pick t (gotten true (renewed 7 src (upper p c))) (gotten false (renewed 7 src (lower p c)))).next.value
          < (pick t (gotten true (renewed 7 src (upper p c))) (gotten false (renewed 7 src (lower p c)))).next.range)
          × ((pick t (gotten true (renewed 7 src (upper p c))) (gotten false (renewed 7 src (lower p c)))).next.range < 256)
      go true e =
          let v : split_of c.range p ≤ c.value = leb-true (split_of c.range p) c.value e in
          let x = turns 7 (upper p c) (omega arith) (omega arith) in
          let y : c.value * 256 + shown_at src c.place - split_of c.range p * 256 ≡ (c.value - split_of c.range p) * 256 + shown_at src c.place = omega arith in (
            ap (λ (t : Bool). pick t
                (told true (normal 7 src (window (c.value * 256 + shown_at src c.place - split_of c.range p * 256) (c.range - split_of c.range p) (c.place % 8) (loaded c))))
                (told false (normal 7 src (window (c.value * 256 + shown_at src c.place) (split_of c.range p) (c.place % 8) (loaded c)))))
                (le-leb (split_of c.range p * 256) (c.value * 256 + shown_at src c.place) (omega arith))
                ∙ ap (λ (i : ℕ). told true (normal 7 src (window i (c.range - split_of c.range p) (c.place % 8) (loaded c)))) y
                ∙ ap (told true) x.0,
            x.1,
            x.2,
          )
      go false e =
          let v : c.value < split_of c.range p = leb-false (split_of c.range p) c.value e in
          let x = turns 7 (lower p c) v (omega (arith, below)) in (
            ap (λ (t : Bool). pick t
                (told true (normal 7 src (window (c.value * 256 + shown_at src c.place - split_of c.range p * 256) (c.range - split_of c.range p) (c.place % 8) (loaded c))))
                (told false (normal 7 src (window (c.value * 256 + shown_at src c.place) (split_of c.range p) (c.place % 8) (loaded c)))))
                (lt-leb (split_of c.range p * 256) (c.value * 256 + shown_at src c.place) (omega arith))
                ∙ ap (told false) x.0,
            x.1,
            x.2,
          )

opened-below : (src : List ℕ) → get_or src 0 0 < 255 → (opened src).value < (opened src).range
unfolding opened
opened-below src h = h

opened-byte : (src : List ℕ) → (opened src).range < 256
unfolding opened
opened-byte src = omega arith

start-same : (src : List ℕ) → ((i : ℕ) → get_or src i 0 < 256) → start_rfc src ≡ window_of src (opened src)
unfolding start_rfc opened
start-same src bytes =
    let e : get_or src 0 0 * 256 % 4294967296 ≡ get_or src 0 0 * 256 = omega (arith, bytes 0) in
    let f : get_or src 1 0 ≡ get_or src 1 0 * 1 % 256 = omega (arith, bytes 1) in
    same-window
    (ap (λ (i : ℕ). bit_or i (get_or src 1 0)) e ∙ or_shifted (get_or src 0 0) 8 (get_or src 1 0) (bytes 1) ∙ ap (λ (i : ℕ). get_or src 0 0 * 256 + i) f)
    refl refl refl

-- every probability that can be asked for is a byte
module _ {A : Type 0} where
  unfoldable pub Probs : Reads A → Type 0
  Probs (done a) = Unit
  Probs (ask p k) = (p < 256) × ((b : Bool) → Probs (k b))

module _ {A : Type 0} (src : List ℕ) (bytes : (i : ℕ) → get_or src i 0 < 256) where
  abbrev told_of : A → Window → Told A
  told_of a w = record { got = a; next = w }

  window_same : (m : Reads A) (c : Coder) → Probs m → c.value < c.range → c.range < 256
      → ran_rfc src m (window_of src c) ≡ told_of (ran src m c).got (window_of src (ran src m c).next)
  unfolding ran_rfc ran Probs
  window_same (done a) c q h l = refl
  window_same (ask p k) c q h l =
      let x = read-window src bytes p c q.0 h l in
      ap (λ (y : Told Bool). ran_rfc src (k y.got) y.next) x.0
      ∙ window_same (k (read_bool src p c).got) (read_bool src p c).next (q.1 (read_bool src p c).got) x.1 x.2

  -- from the start of a partition whose first byte is not 255: the same values
  pub rfc-window : get_or src 0 0 < 255 → (m : Reads A) → Probs m
      → ran_rfc src m (start_rfc src) ≡ told_of (ran src m (opened src)).got (window_of src (ran src m (opened src)).next)
  rfc-window h m q = ap (ran_rfc src m) (start-same src bytes) ∙ window_same m (opened src) q (opened-below src h) (opened-byte src)

  -- and past the end together
  pub rfc-past : get_or src 0 0 < 255 → (m : Reads A) → Probs m → past_rfc src (ran_rfc src m (start_rfc src)).next ≡ past src (ran src m (opened src)).next
  rfc-past h m q = ap (λ (x : Told A). past_rfc src x.next) (rfc-window h m q)
