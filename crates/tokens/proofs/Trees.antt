-- A walk of a tree, node by node. Assumes nothing.
use Prim.Native.Nat.{ℕ, ◌+◌, ◌*◌, ◌^◌, ◌≤◌, ◌<◌}
use mathlib.Core.Path.{◌≡◌, refl, sym, ap, subst, ◌∙◌}
use mathlib.Core.Bool.{Bool, true, false}
use mathlib.Core.List.{List, [], ◌∷◌}
use native.Mathlib.Omega.{arith}
use native.Mathlib.Numerals.{add-one}
use native.Mathlib.Nat.{pow-succ', le_antisymm}
use lib.Pow.{pow_mono}
use lib.ListN.{length, get_or, take, drop}
use Rattle.std.specs.Int.{from_bool}
use Rattle.std.proofs.Common.{rules}
use Rattle.std.proofs.lemmas.List.{get_or-take, get_or-drop}
use lib.Seq.{drop-cons, drop-length}
use Rattle.lists.specs.Lists.{pick}
use Rattle.bool_decoder.specs.BoolCoder.{Coder, Got, Reads, done, ran, ◌then◌, read_bool, bit_of}
use Rattle.bool_decoder.specs.Held.{Holds, Ready, IsOne, After, Takes, Went}
use Rattle.bool_decoder.specs.declared.BoolDecoder.{BoolDecoder}
use Rattle.bool_decoder.proofs.Runs.{ran_then}
use Rattle.tokens.specs.Tokens.{Tree, value, node, extras, treed, nonzero_tree}
use Rattle.tokens.specs.Walks.{Sized, Walks, Token}

abbrev gotten : ℕ → Coder → Got ℕ
gotten k c = record { got = k; next = c }

sized-by : {src : List ℕ} {m m' : Reads ℕ} {c c' : Coder} {r : Token} → ran src m c ≡ ran src m' c' → Sized src m' c' r → Sized src m c r
sized-by {src} {m} {m'} {c} {c'} {r} e s =
    record {
      size = s.size ∙ sym (ap (λ (x : Got ℕ). x.got) e);
      holds = subst (λ (x : Got ℕ). Holds src r.1 x.next) (sym e) s.holds;
      held = s.held;
    }

-- the other way at a node
module _ (src probs : List ℕ) (row n : ℕ) (a b : Tree) (d e : BoolDecoder) (r : Token) (o : Bool) (one : IsOne (get_or probs (row + n) 0) d o) where
  ran-one : (c : Coder) → (read_bool src (get_or probs (row + n) 0) c).got ≡ true
      → ran src (treed probs row (node n a b)) c ≡ ran src (treed probs row b) (read_bool src (get_or probs (row + n) 0) c).next
  unfolding ran treed
  ran-one c g = ap (λ (t : Bool). ran src (pick t (treed probs row b) (treed probs row a)) (read_bool src (get_or probs (row + n) 0) c).next) g

  ran-zero : (c : Coder) → (read_bool src (get_or probs (row + n) 0) c).got ≡ false
      → ran src (treed probs row (node n a b)) c ≡ ran src (treed probs row a) (read_bool src (get_or probs (row + n) 0) c).next
  unfolding ran treed
  ran-zero c g = ap (λ (t : Bool). ran src (pick t (treed probs row b) (treed probs row a)) (read_bool src (get_or probs (row + n) 0) c).next) g

  pub walk-one : (least least' : ℕ) → 15 ≤ least → least' + 7 ≤ least → o ≡ true → After true (get_or probs (row + n) 0) d e
      → Walks src (treed probs row b) least' e r → Walks src (treed probs row (node n a b)) least d r
  walk-one least least' x y t q w =
      record {
        small = w.small;
        some = w.some;
        is =
            λ c h l.
            let g : (read_bool src (get_or probs (row + n) 0) c).got ≡ true = sym (one.is src c h) ∙ t in
            let u : Went src d e 7 (read_bool src (get_or probs (row + n) 0) c).next = q.is src c h (omega arith) g in
            let uh : d.held ≤ e.held + 7 = u.held in
            sized-by (ran-one c g) (w.is (read_bool src (get_or probs (row + n) 0) c).next u.holds (omega arith));
      }

  pub walk-zero : (least least' : ℕ) → 15 ≤ least → least' + 7 ≤ least → o ≡ false → After false (get_or probs (row + n) 0) d e
      → Walks src (treed probs row a) least' e r → Walks src (treed probs row (node n a b)) least d r
  walk-zero least least' x y t q w =
      record {
        small = w.small;
        some = w.some;
        is =
            λ c h l.
            let g : (read_bool src (get_or probs (row + n) 0) c).got ≡ false = sym (one.is src c h) ∙ t in
            let u : Went src d e 7 (read_bool src (get_or probs (row + n) 0) c).next = q.is src c h (omega arith) g in
            let uh : d.held ≤ e.held + 7 = u.held in
            sized-by (ran-zero c g) (w.is (read_bool src (get_or probs (row + n) 0) c).next u.holds (omega arith));
      }

-- a row of eleven is all that a tree's walk reads of the table
Rows : Tree → Type 0
Rows (value base ps) = Unit {0}
Rows (node n a b) = (n < 11) × (Rows a × Rows b)

module _ (src probs : List ℕ) (row : ℕ) where
  row-read : (n : ℕ) → n < 11 → get_or (take 11 (drop row probs)) (0 + n) 0 ≡ get_or probs (row + n) 0
  row-read n h = let e : 0 + n ≡ n = omega arith in rw e (get_or-take 11 (drop row probs) n 0 h ∙ get_or-drop row probs n 0)

  ways : (a b : Tree) → ((k : Coder) → ran src (treed (take 11 (drop row probs)) 0 a) k ≡ ran src (treed probs row a) k)
      → ((k : Coder) → ran src (treed (take 11 (drop row probs)) 0 b) k ≡ ran src (treed probs row b) k)
      → (bit : Bool) (k : Coder) → ran src (pick bit (treed (take 11 (drop row probs)) 0 b) (treed (take 11 (drop row probs)) 0 a)) k
      ≡ ran src (pick bit (treed probs row b) (treed probs row a)) k
  ways a b x y true k = y k
  ways a b x y false k = x k

  ran-row : (t : Tree) → Rows t → (c : Coder) → ran src (treed (take 11 (drop row probs)) 0 t) c ≡ ran src (treed probs row t) c
  unfolding ran treed Rows
  ran-row (value base ps) z c = refl
  ran-row (node n a b) (h, (x, y)) c =
      rw (row-read n h)
      (ways a b (λ k. ran-row a x k) (λ k. ran-row b y k) (read_bool src (get_or probs (row + n) 0) c).got (read_bool src (get_or probs (row + n) 0) c).next)

  rows-nonzero : Rows nonzero_tree
  unfolding Rows
  rows-nonzero = search rules

  pub walk-row : (d : BoolDecoder) (r : Token) → Walks src (treed (take 11 (drop row probs)) 0 nonzero_tree) 26 d r → Walks src (treed probs row nonzero_tree) 26 d r
  walk-row d r w =
      record {
        small = w.small;
        some = w.some;
        is = λ c h l. sized-by (sym (ran-row nonzero_tree rows-nonzero c)) (w.is c h l);
      }

-- more bits first
pub walk-ready : {src : List ℕ} {m : Reads ℕ} {least : ℕ} {d e : BoolDecoder} {r : Token} → least ≤ 33 → Ready src d e → Walks src m least e r → Walks src m 8 d r
walk-ready f y w =
    record {
      small = w.small;
      some = w.some;
      is =
          λ c h l.
          let k = y.held (omega arith) in
          w.is c (y.holds c h) (omega arith);
    }

-- a leaf without extra bits
pub at_plain : (src probs : List ℕ) (row base : ℕ) (d : BoolDecoder) → 0 < base → base ≤ 2114 → Walks src (treed probs row (value base [])) 19 d (base, d)
unfolding ran treed extras ◌then◌
at_plain src probs row base d f g =
    record {
      small = g;
      some = f;
      is = λ c h l. record { size = (let y : base ≡ base + 0 = omega arith in y); holds = h; held = l };
    }

pub bit_is : (b : Bool) → from_bool b ≡ bit_of b
bit_is true = refl
bit_is false = refl

pub bit-most : (b : Bool) → bit_of b ≤ 1
bit-most true = omega arith
bit-most false = omega arith

-- two leaves that differ by one
module _ (src probs : List ℕ) (row n base : ℕ) (d e : BoolDecoder) (b : Bool × BoolDecoder) (r : ℕ) (t : Takes (get_or probs (row + n) 0) d b) (y : Ready src b.1 e) where
  pair_size : (g : Bool) (c : Coder) → ran src (pick g (treed probs row (value (base + 1) [])) (treed probs row (value base []))) c ≡ gotten (base + bit_of g) c
  unfolding ran treed extras ◌then◌
  pair_size true c = let z : base + 1 + 0 ≡ base + 1 = omega arith in ap (λ (i : ℕ). gotten i c) z
  pair_size false c = refl

  pair-ran : (c : Coder) → ran src (treed probs row (node n (value base []) (value (base + 1) []))) c
      ≡ gotten (base + bit_of (read_bool src (get_or probs (row + n) 0) c).got) (read_bool src (get_or probs (row + n) 0) c).next
  unfolding ran treed
  pair-ran c = pair_size (read_bool src (get_or probs (row + n) 0) c).got (read_bool src (get_or probs (row + n) 0) c).next

  pub walk_pair : r ≡ base + bit_of b.0 → 0 < base → base ≤ 2113 → Walks src (treed probs row (node n (value base []) (value (base + 1) []))) 15 d (r, e)
  walk_pair q f g =
      subst (λ (i : ℕ). Walks src (treed probs row (node n (value base []) (value (base + 1) []))) 15 d (i, e)) (sym q)
      (record {
        small = omega (arith, bit-most b.0);
        some = omega arith;
        is =
            λ c h l.
            let u = t.next src c h l in
            let ue = u.held in
            let us = u.holds.some in
            record {
              size = ap (λ (i : Bool). base + bit_of i) (t.bit src c h) ∙ sym (ap (λ (x : Got ℕ). x.got) (pair-ran c));
              holds = subst (λ (x : Got ℕ). Holds src e x.next) (sym (pair-ran c)) (y.holds _ u.holds);
              held = (let k = y.held (omega arith) in omega arith);
            };
      })

-- one extra bit
module _ (src probs : List ℕ) (row base prob : ℕ) (d e : BoolDecoder) (b : Bool × BoolDecoder) (r : ℕ) (t : Takes prob d b) (y : Ready src b.1 e) where
  one-ran : (c : Coder) → ran src (treed probs row (value base (prob ∷ []))) c ≡ gotten (base + (0 + 0 + bit_of (read_bool src prob c).got)) (read_bool src prob c).next
  unfolding ran treed extras ◌then◌
  one-ran c = refl

  pub walk-extra : r ≡ base + bit_of b.0 → 0 < base → base ≤ 67 → Walks src (treed probs row (value base (prob ∷ []))) 15 d (r, e)
  walk-extra q f g =
      subst (λ (i : ℕ). Walks src (treed probs row (value base (prob ∷ []))) 15 d (i, e)) (sym q)
      (record {
        small = omega (arith, bit-most b.0);
        some = omega arith;
        is =
            λ c h l.
            let u = t.next src c h l in
            let us = u.holds.some in
            let z : (i : Bool) → base + bit_of i ≡ base + (0 + 0 + bit_of i) = λ i. omega arith in
            record {
              size = ap (λ (i : Bool). base + bit_of i) (t.bit src c h) ∙ z (read_bool src prob c).got ∙ sym (ap (λ (x : Got ℕ). x.got) (one-ran c));
              holds = subst (λ (x : Got ℕ). Holds src e x.next) (sym (one-ran c)) (y.holds _ u.holds);
              held = (let k = y.held (omega arith) in omega arith);
            };
      })

-- two
module _ (src probs : List ℕ) (row base p q : ℕ) (d e : BoolDecoder) (a b : Bool × BoolDecoder) (r : ℕ) (s : Takes p d a) (t : Takes q a.1 b) (y : Ready src b.1 e) where
  two-ran : (c : Coder) → ran src (treed probs row (value base (p ∷ q ∷ []))) c
      ≡ gotten (base + (0 + 0 + bit_of (read_bool src p c).got + (0 + 0 + bit_of (read_bool src p c).got) + bit_of (read_bool src q (read_bool src p c).next).got))
      (read_bool src q (read_bool src p c).next).next
  unfolding ran treed extras ◌then◌
  two-ran c = refl

  pub walk-extras : r ≡ base + 2 * bit_of a.0 + bit_of b.0 → 0 < base → base ≤ 67 → Walks src (treed probs row (value base (p ∷ q ∷ []))) 22 d (r, e)
  walk-extras w f g =
      subst (λ (i : ℕ). Walks src (treed probs row (value base (p ∷ q ∷ []))) 22 d (i, e)) (sym w)
      (record {
        small = omega (arith, bit-most a.0, bit-most b.0);
        some = omega arith;
        is =
            λ c h l.
            let u = s.next src c h (omega arith) in
            let uh = u.held in
            let x = (read_bool src p c).next in
            let v = t.next src (read_bool src p c).next u.holds (omega arith) in
            let vs = v.holds.some in
            let z : (i j : Bool) → base + 2 * bit_of i + bit_of j ≡ base + (0 + 0 + bit_of i + (0 + 0 + bit_of i) + bit_of j) = λ i j. omega arith in
            record {
              size =
                  ap (λ (i : Bool). base + 2 * bit_of i + bit_of b.0) (s.bit src c h)
                  ∙ ap (λ (i : Bool). base + 2 * bit_of (read_bool src p c).got + bit_of i) (t.bit src (read_bool src p c).next u.holds)
                  ∙ z (read_bool src p c).got (read_bool src q (read_bool src p c).next).got
                  ∙ sym (ap (λ (k : Got ℕ). k.got) (two-ran c));
              holds = subst (λ (k : Got ℕ). Holds src e k.next) (sym (two-ran c)) (y.holds _ v.holds);
              held = (let k = y.held (omega arith) in omega arith);
            };
      })

-- a leaf's program is the same for any probabilities of the tree
pub leaf-same : (src probs : List ℕ) (row base : ℕ) (ps : List ℕ) (least : ℕ) (d : BoolDecoder) (r : Token)
    → Walks src (treed [] 0 (value base ps)) least d r → Walks src (treed probs row (value base ps)) least d r
unfolding treed
leaf-same src probs row base ps least d r w = w

-- the loop over extra bits: what is left makes what was to be made
pub record Going (src ps : List ℕ) (i v : ℕ) (e : BoolDecoder) (c₀ : Coder) : Type 0 where
  pub coder : Coder
  pub holds : Holds src e coder
  pub same : ran src (extras (drop i ps) v) coder ≡ ran src (extras ps 0) c₀

one_more : (src ps : List ℕ) (i v : ℕ) (c : Coder) → i < length ps
    → ran src (extras (drop i ps) v) c ≡ ran src (extras (drop (i + 1) ps) (v + v + bit_of (read_bool src (get_or ps i 0) c).got)) (read_bool src (get_or ps i 0) c).next
unfolding extras ran
one_more src ps i v c h = rw (add-one, drop-cons ps i 0 h)

pub going_on : (src ps : List ℕ) (i v : ℕ) (e f : BoolDecoder) (b : Bool × BoolDecoder) (w : ℕ) (c₀ : Coder) → i < length ps → Ready src e f → Takes (get_or ps i 0) f b
    → w ≡ v + v + bit_of b.0 → Going src ps i v e c₀ → Going src ps (i + 1) w b.1 c₀
going_on src ps i v e f b w c₀ h y t q g =
    let c : Coder = g.coder in
    let s = g.holds.some in
    let k = y.held (omega arith) in
    let u = t.next src g.coder (y.holds g.coder g.holds) (omega arith) in
    let x : w ≡ v + v + bit_of (read_bool src (get_or ps i 0) g.coder).got
    = q ∙ ap (λ (j : Bool). v + v + bit_of j) (t.bit src g.coder (y.holds g.coder g.holds)) in
    record {
      coder = (read_bool src (get_or ps i 0) g.coder).next;
      holds = u.holds;
      same =
          ap (λ (j : ℕ). ran src (extras (drop (i + 1) ps) j) (read_bool src (get_or ps i 0) g.coder).next) x
          ∙ sym (one_more src ps i v g.coder h) ∙ g.same;
    }

pub small-on : (v w i : ℕ) (b : Bool) → v < 2 ^ i → w ≡ v + v + bit_of b → w < 2 ^ (i + 1)
small-on v w i b l q =
    let e : 2 ^ (i + 1) ≡ 2 * 2 ^ i = ap (λ (j : ℕ). 2 ^ j) (add-one i) ∙ pow-succ' 2 i in
    omega (arith, bit-most b)

pub under-eleven : (v i : ℕ) → v < 2 ^ i → i ≤ 11 → v < 2048
under-eleven v i l h = omega (arith, pow_mono {i = i} {j = 11} h)

last-bits : (src ps : List ℕ) (i v : ℕ) (c : Coder) → i ≤ length ps → length ps ≤ i → ran src (extras (drop i ps) v) c ≡ gotten v c
unfolding extras ran
last-bits src ps i v c a b = rw (le_antisymm a b, drop-length ps)

at_done : (src : List ℕ) (k : ℕ) (x : Coder) → ran src (done k) x ≡ gotten k x
unfolding ran
at_done src k x = refl

based : (src ps : List ℕ) (base : ℕ) (c : Coder) → ran src (treed [] 0 (value base ps)) c ≡ gotten (base + (ran src (extras ps 0) c).got) (ran src (extras ps 0) c).next
unfolding treed
based src ps base c = ran_then src (extras ps 0) (λ v. done (base + v)) c ∙ at_done src (base + (ran src (extras ps 0) c).got) (ran src (extras ps 0) c).next

pub going_done : (src ps : List ℕ) (base i v : ℕ) (d e f : BoolDecoder) → i ≤ length ps → length ps ≤ i → 0 < base → base + v ≤ 2114
    → ((c : Coder) → Holds src d c → Going src ps i v e c) → Ready src e f → Walks src (treed [] 0 (value base ps)) 8 d (base + v, f)
going_done src ps base i v d e f a b k m g y =
    record {
      small = m;
      some = omega arith;
      is =
          λ c h l.
          let x = g c h in
          let s = x.holds.some in
          let z : gotten v x.coder ≡ ran src (extras ps 0) c = sym (last-bits src ps i v x.coder a b) ∙ x.same in
          let w : ran src (treed [] 0 (value base ps)) c ≡ gotten (base + v) x.coder
          = based src ps base c ∙ ap (λ (j : Got ℕ). gotten (base + j.got) j.next) (sym z) in
          record {
            size = sym (ap (λ (j : Got ℕ). j.got) w);
            holds = subst (λ (j : Got ℕ). Holds src f j.next) (sym w) (y.holds x.coder x.holds);
            held = (let q = y.held (omega arith) in omega arith);
          };
    }
