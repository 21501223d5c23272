-- What holds of everything that reads bools, whatever it reads: it only goes on through the partition; once past the end it is
-- past the end for good; and the bytes behind those that the RFC has loaded change nothing. Assumes nothing.
use Rattle.std.proofs.Common.{◌≡◌, ℕ, zero, suc, ◌+◌, ◌-◌, ◌*◌, ◌/◌, ◌%◌, ◌^◌, ◌<◌, ◌≤◌, Bool, true, false, ltb, leb, List, length, get_or, refl, ap, ◌∙◌, arith, ltb-true, lt-ltb}
use Rattle.lists.specs.Lists.{pick}
use Rattle.bool_decoder.specs.BoolCoder.{Coder, Got, bit_at, shifted, renewed, read_bool, upper, lower, split_of, loaded, past, Reads, done, ask, ran}

-- on through the partition
renewed-on : (k : ℕ) (src : List ℕ) (c : Coder) → c.place ≤ (renewed k src c).place
unfolding renewed
renewed-on zero src c = omega arith
renewed-on (suc k) src c = go (ltb c.range 128) (renewed-on k src (shifted src c))
  where
    go : (t : Bool) → c.place + 1 ≤ (renewed k src (shifted src c)).place → c.place ≤ (pick t (renewed k src (shifted src c)) c).place
    go true h = omega arith
    go false h = omega arith

abbrev gotten : Bool → Coder → Got Bool
gotten b c = record { got = b; next = c }

read-on : (src : List ℕ) (p : ℕ) (c : Coder) → c.place ≤ (read_bool src p c).next.place
unfolding read_bool
read-on src p c = go (leb (split_of c.range p) c.value)
  where
    go : (t : Bool) → c.place ≤ (pick t (gotten true (renewed 7 src (upper p c))) (gotten false (renewed 7 src (lower p c)))).next.place
    go true = renewed-on 7 src (upper p c)
    go false = renewed-on 7 src (lower p c)

module _ {A : Type 0} where
  pub ran_on : (src : List ℕ) (m : Reads A) (c : Coder) → c.place ≤ (ran src m c).next.place
  unfolding ran
  ran_on src (done a) c = omega arith
  ran_on src (ask p k) c = omega (arith, read-on src p c, ran_on src (k (read_bool src p c).got) (read_bool src p c).next)

  -- once past the end, always past the end
  pub past-stays : (src : List ℕ) (m : Reads A) (c : Coder) → past src c ≡ true → past src (ran src m c).next ≡ true
  past-stays src m c h = lt-ltb (length src) (loaded (ran src m c).next) (omega (arith, ltb-true (length src) (loaded c) h, ran_on src m c))

-- two partitions with the same first n bytes
abbrev pub Agree : ℕ → List ℕ → List ℕ → Type 0
Agree n src other = (i : ℕ) → i < n → get_or src i 0 ≡ get_or other i 0

bit-same : (n : ℕ) (src other : List ℕ) (k : ℕ) → Agree n src other → k / 8 < n → bit_at src k ≡ bit_at other k
unfolding bit_at
bit-same n src other k a h = ap (λ (b : ℕ). b / 2 ^ (7 - k % 8) % 2) (a (k / 8) h)

abbrev coded : Coder → ℕ → Coder
coded c b = record { value = c.value * 2 % 256 + b; range = c.range * 2; place = c.place + 1 }

shift_same : (n : ℕ) (src other : List ℕ) (c : Coder) → Agree n src other → (c.place + 8) / 8 < n → shifted src c ≡ shifted other c
shift_same n src other c a h =
    ap (coded c) (bit-same n src other (c.place + 8) a h)

renewed-same : (k n : ℕ) (src other : List ℕ) (c : Coder) → Agree n src other → loaded (renewed k src c) ≤ n → renewed k src c ≡ renewed k other c
unfolding renewed
renewed-same zero n src other c a = λ h. refl
renewed-same (suc k) n src other c a = go (ltb c.range 128) (renewed-same k n src other (shifted src c) a)
  where
    go : (t : Bool) → (loaded (renewed k src (shifted src c)) ≤ n → renewed k src (shifted src c) ≡ renewed k other (shifted src c))
        → loaded (pick t (renewed k src (shifted src c)) c) ≤ n
        → pick t (renewed k src (shifted src c)) c ≡ pick t (renewed k other (shifted other c)) c
    go false more h = refl
    go true more h =
        more h
        ∙ ap (renewed k other) (shift_same n src other c a (omega (arith, renewed-on k src (shifted src c))))

read_same : (n : ℕ) (src other : List ℕ) (p : ℕ) (c : Coder) → Agree n src other → loaded (read_bool src p c).next ≤ n → read_bool src p c ≡ read_bool other p c
unfolding read_bool
read_same n src other p c a = go (leb (split_of c.range p) c.value)
  where
    go : (t : Bool)
        → loaded (pick t (gotten true (renewed 7 src (upper p c))) (gotten false (renewed 7 src (lower p c)))).next ≤ n
        → pick t (gotten true (renewed 7 src (upper p c))) (gotten false (renewed 7 src (lower p c)))
        ≡ pick t (gotten true (renewed 7 other (upper p c))) (gotten false (renewed 7 other (lower p c)))
    go true h = ap (gotten true) (renewed-same 7 n src other (upper p c) a h)
    go false h = ap (gotten false) (renewed-same 7 n src other (lower p c) a h)

module _ {A : Type 0} where
  -- the bytes behind those that were loaded change nothing
  pub ran-same : (n : ℕ) (src other : List ℕ) (m : Reads A) (c : Coder) → Agree n src other → loaded (ran src m c).next ≤ n → ran src m c ≡ ran other m c
  unfolding ran
  ran-same n src other (done x) c a h = refl
  ran-same n src other (ask p k) c a h =
      let r : read_bool src p c ≡ read_bool other p c
      = read_same n src other p c a (omega (arith, ran_on src (k (read_bool src p c).got) (read_bool src p c).next)) in
      ran-same n src other (k (read_bool src p c).got) (read_bool src p c).next a h
      ∙ ap (λ (x : Got Bool). ran other (k x.got) x.next) r

-- at most so many bools, whatever they are
module _ {A : Type 0} where
  unfoldable pub AtMost : ℕ → Reads A → Type 0
  AtMost n (done a) = Unit
  AtMost zero (ask p k) = ⊥
  AtMost (suc n) (ask p k) = (b : Bool) → AtMost n (k b)

  -- how many are read
  unfoldable pub asked : List ℕ → Reads A → Coder → ℕ
  asked src (done a) c = 0
  asked src (ask p k) c = suc (asked src (k (read_bool src p c).got) (read_bool src p c).next)

  pub asked-most : (n : ℕ) (src : List ℕ) (m : Reads A) (c : Coder) → AtMost n m → asked src m c ≤ n
  unfolding asked AtMost
  asked-most n src (done a) c h = omega arith
  asked-most zero src (ask p k) c h = absurd h
  asked-most (suc n) src (ask p k) c h = omega (arith, asked-most n src (k (read_bool src p c).got) (read_bool src p c).next (h (read_bool src p c).got))

  -- every value that can come out has the property
  unfoldable pub Always : (A → Type 0) → Reads A → Type 0
  Always P (done a) = P a
  Always P (ask p k) = (b : Bool) → Always P (k b)

  pub always-ran : (P : A → Type 0) (src : List ℕ) (m : Reads A) (c : Coder) → Always P m → P (ran src m c).got
  unfolding ran Always
  always-ran P src (done a) c h = h
  always-ran P src (ask p k) c h = always-ran P src (k (read_bool src p c).got) (read_bool src p c).next (h (read_bool src p c).got)
