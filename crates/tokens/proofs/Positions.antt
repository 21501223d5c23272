-- A block, position by position: what is left to read makes what was to be read. Assumes nothing.
use Prim.Native.Nat.{ℕ, zero, suc, ◌+◌, ◌-◌, ◌≤◌, ◌<◌}
use mathlib.Core.Path.{◌≡◌, refl, sym, ap, subst, ◌∙◌}
use mathlib.Core.Bool.{Bool, true, false, ◌||◌}
use mathlib.Core.List.{List, []}
use native.Mathlib.Omega.{arith}
use lib.Dec.{eqb}
use lib.IntN.{ℤ}
use lib.ListN.{get_or}
use borrow.Author.Tests.{ne_eqb}
use Rattle.lists.specs.Lists.{pick}
use Rattle.bool_decoder.specs.BoolCoder.{Coder, Got, Reads, done, ask, ran, ◌then◌, read_bool}
use Rattle.bool_decoder.specs.Held.{Holds, Ready, IsOne, After, Went}
use Rattle.bool_decoder.specs.declared.BoolDecoder.{BoolDecoder}
use Rattle.bool_decoder.proofs.Runs.{ran_then}
use Rattle.tokens.specs.Tokens.{Drawn, treed, extras, value, nonzero_tree, later_tree, positions, unless_ended, row_of, class_of, zeroed, stored}
use Rattle.tokens.specs.Walks.{Band, Put, Puts, Drew, drawn, Token}

module _ (src probs : List ℕ) (base at : ℕ) (zeros : Bool) where
  -- what follows a token of that size
  abbrev after : ℕ → ℕ → Drawn → ℕ → Reads Drawn
  after k i x size =
      pick (eqb size 0)
      (positions probs base at zeros k true (i + 1) (row_of base (i + 1) 0) (zeroed zeros x))
      (ask 128 (λ minus. positions probs base at zeros k false (i + 1) (row_of base (i + 1) (class_of size)) (stored at i size minus x)))

  opens : (k i row : ℕ) (x : Drawn) (c : Coder) → ran src (positions probs base at zeros (suc k) true i row x) c ≡ ran src (treed probs row later_tree then after k i x) c
  unfolding positions unless_ended
  opens k i row x c = refl

  -- node 1
  later-zero : (row : ℕ) (f : ℕ → Reads Drawn) (c : Coder) → (read_bool src (get_or probs (row + 1) 0) c).got ≡ false
      → ran src (treed probs row later_tree then f) c ≡ ran src (f 0) (read_bool src (get_or probs (row + 1) 0) c).next
  unfolding ran treed extras ◌then◌
  later-zero row f c g =
      ap (λ (t : Bool). ran src (pick t (treed probs row nonzero_tree) (treed probs row (value 0 [])) then f) (read_bool src (get_or probs (row + 1) 0) c).next) g

  later-one : (row : ℕ) (f : ℕ → Reads Drawn) (c : Coder) → (read_bool src (get_or probs (row + 1) 0) c).got ≡ true
      → ran src (treed probs row later_tree then f) c ≡ ran src (treed probs row nonzero_tree then f) (read_bool src (get_or probs (row + 1) 0) c).next
  unfolding ran treed ◌then◌
  later-one row f c g =
      ap (λ (t : Bool). ran src (pick t (treed probs row nonzero_tree) (treed probs row (value 0 [])) then f) (read_bool src (get_or probs (row + 1) 0) c).next) g

  -- a zero
  zero_turn : (i row : ℕ) (x : Drawn) (c : Coder) → i < 16 → (read_bool src (get_or probs (row + 1) 0) c).got ≡ false
      → ran src (positions probs base at zeros (16 - i) true i row x) c
      ≡ ran src (positions probs base at zeros (16 - (i + 1)) true (i + 1) (row_of base (i + 1) 0) (zeroed zeros x)) (read_bool src (get_or probs (row + 1) 0) c).next
  zero_turn i row x c h g =
      let e : 16 - i ≡ suc (16 - (i + 1)) = omega arith in
      ap (λ (k : ℕ). ran src (positions probs base at zeros k true i row x) c) e
      ∙ opens (16 - (i + 1)) i row x c
      ∙ later-zero row (after (16 - (i + 1)) i x) c g

  -- a coefficient that is not 0, and its sign
  asked : (p : ℕ) (f : Bool → Reads Drawn) (c : Coder) → ran src (ask p f) c ≡ ran src (f (read_bool src p c).got) (read_bool src p c).next
  unfolding ran
  asked p f c = refl

  not_none : (k i : ℕ) (x : Drawn) (size : ℕ) → 0 < size
      → after k i x size ≡ ask 128 (λ minus. positions probs base at zeros k false (i + 1) (row_of base (i + 1) (class_of size)) (stored at i size minus x))
  not_none k i x size h =
      let e : eqb size 0 ≡ false = ne_eqb size 0 (λ q. omega arith) in
      ap (λ (t : Bool).
      pick t
      (positions probs base at zeros k true (i + 1) (row_of base (i + 1) 0) (zeroed zeros x))
      (ask 128 (λ minus. positions probs base at zeros k false (i + 1) (row_of base (i + 1) (class_of size)) (stored at i size minus x)))) e

  one-turn : (i row : ℕ) (x : Drawn) (c : Coder) (size : ℕ) → i < 16 → (read_bool src (get_or probs (row + 1) 0) c).got ≡ true → 0 < size
      → size ≡ (ran src (treed probs row nonzero_tree) (read_bool src (get_or probs (row + 1) 0) c).next).got
      → ran src (positions probs base at zeros (16 - i) true i row x) c
      ≡ (let n = (ran src (treed probs row nonzero_tree) (read_bool src (get_or probs (row + 1) 0) c).next).next in
      ran src (positions probs base at zeros (16 - (i + 1)) false (i + 1) (row_of base (i + 1) (class_of size)) (stored at i size (read_bool src 128 n).got x))
      (read_bool src 128 n).next)
  one-turn i row x c size h g s z =
      let e : 16 - i ≡ suc (16 - (i + 1)) = omega arith in
      let d : Coder = (read_bool src (get_or probs (row + 1) 0) c).next in
      let n : Coder = (ran src (treed probs row nonzero_tree) (read_bool src (get_or probs (row + 1) 0) c).next).next in
      ap (λ (k : ℕ). ran src (positions probs base at zeros k true i row x) c) e
      ∙ opens (16 - (i + 1)) i row x c
      ∙ later-one row (after (16 - (i + 1)) i x) c g
      ∙ ran_then src (treed probs row nonzero_tree) (after (16 - (i + 1)) i x) d
      ∙ ap (λ (k : ℕ). ran src (after (16 - (i + 1)) i x k) n) (sym z)
      ∙ ap (λ (m : Reads Drawn). ran src m n) (not_none (16 - (i + 1)) i x size s)
      ∙ asked 128 (λ minus. positions probs base at zeros (16 - (i + 1)) false (i + 1) (row_of base (i + 1) (class_of size)) (stored at i size minus x)) n

  -- node 0 of a token after that
  pub goes_on : (i row : ℕ) (x : Drawn) (c : Coder) → i < 16 → (read_bool src (get_or probs row 0) c).got ≡ true
      → ran src (positions probs base at zeros (16 - i) false i row x) c ≡ ran src (positions probs base at zeros (16 - i) true i row x) (read_bool src (get_or probs row 0) c).next
  unfolding positions unless_ended ran
  goes_on i row x c h g =
      let e : 16 - i ≡ suc (16 - (i + 1)) = omega arith in
      rw e (ap (λ (t : Bool). ran src (pick t (treed probs row later_tree then after (16 - (i + 1)) i x) (done x)) (read_bool src (get_or probs row 0) c).next) g)

  abbrev pub gotten : Drawn → Coder → Got Drawn
  gotten x c = record { got = x; next = c }

  pub ends : (i row : ℕ) (x : Drawn) (c : Coder) → i < 16 → (read_bool src (get_or probs row 0) c).got ≡ false
      → ran src (positions probs base at zeros (16 - i) false i row x) c ≡ gotten x (read_bool src (get_or probs row 0) c).next
  unfolding positions unless_ended ran
  ends i row x c h g =
      let e : 16 - i ≡ suc (16 - (i + 1)) = omega arith in
      rw e (ap (λ (t : Bool). ran src (pick t (treed probs row later_tree then after (16 - (i + 1)) i x) (done x)) (read_bool src (get_or probs row 0) c).next) g)

  all_done : (i row : ℕ) (z : Bool) (x : Drawn) (c : Coder) → 16 ≤ i → ran src (positions probs base at zeros (16 - i) z i row x) c ≡ gotten x c
  unfolding positions ran
  all_done i row z x c h = let e : 16 - i ≡ 0 = omega arith in rw e

  -- the row is read of before the last position alone
  row_same : (i row row' : ℕ) (z : Bool) (x : Drawn) (c : Coder) → (i < 16 → row ≡ row') → i ≤ 16
      → ran src (positions probs base at zeros (16 - i) z i row x) c ≡ ran src (positions probs base at zeros (16 - i) z i row' x) c
  row_same i row row' z x c f h = go (16 - i) refl
    where
      go : (k : ℕ) → 16 - i ≡ k → ran src (positions probs base at zeros (16 - i) z i row x) c ≡ ran src (positions probs base at zeros (16 - i) z i row' x) c
      go zero e = all_done i row z x c (omega arith) ∙ sym (all_done i row' z x c (omega arith))
      go (suc k) e = ap (λ (r : ℕ). ran src (positions probs base at zeros (16 - i) z i r x) c) (f (omega arith))

  -- the loop
  pub record Going (first from : ℕ) (o₀ : List ℤ) (i row : ℕ) (o : List ℤ) (some : Bool) (e : BoolDecoder) (c₀ : Coder) : Type 0 where
    pub coder : Coder
    pub holds : Holds src e coder
    pub same : ran src (positions probs base at zeros (16 - i) true i row (drawn o some)) coder
        ≡ ran src (positions probs base at zeros (16 - first) true first from (drawn o₀ false)) c₀

  module _ (first from : ℕ) (o₀ : List ℤ) (c₀ : Coder) (i row : ℕ) (o : List ℤ) (some : Bool) (e f : BoolDecoder) (h : i < 16) (y : Ready src e f)
      (b : Bool) (one : IsOne (get_or probs (row + 1) 0) f b) (g : Going first from o₀ i row o some e c₀) where
    ready_held : 33 ≤ f.held
    ready_held = y.held (omega (arith, g.holds.some))

    ready-holds : Holds src f g.coder
    ready-holds = y.holds g.coder g.holds

    pub zero-on : (n : BoolDecoder) (band : ℕ) → b ≡ false → After false (get_or probs (row + 1) 0) f n → Band (i + 1) band
        → Going first from o₀ (i + 1) (base + band) o (some || zeros) n c₀
    zero-on n band t q w =
        let z : (read_bool src (get_or probs (row + 1) 0) g.coder).got ≡ false = sym (one.is src g.coder ready-holds) ∙ t in
        let u = q.is src g.coder ready-holds (omega (arith, ready_held)) z in
        let k : i + 1 < 16 → base + band ≡ row_of base (i + 1) 0 = λ l. omega (arith, w.is l) in
        record {
          coder = (read_bool src (get_or probs (row + 1) 0) g.coder).next;
          holds = u.holds;
          same =
              row_same (i + 1) (base + band) (row_of base (i + 1) 0) true (drawn o (some || zeros)) (read_bool src (get_or probs (row + 1) 0) g.coder).next k (omega arith)
              ∙ sym (zero_turn i row (drawn o some) g.coder h z) ∙ g.same;
        }

    module _ (n : BoolDecoder) (o' : List ℤ) (r : Token) (t : b ≡ true) (q : After true (get_or probs (row + 1) 0) f n) (p : Puts src probs row at i o n o' r) where
      is_one : (read_bool src (get_or probs (row + 1) 0) g.coder).got ≡ true
      is_one = sym (one.is src g.coder ready-holds) ∙ t

      went : Went src f n 7 (read_bool src (get_or probs (row + 1) 0) g.coder).next
      went = q.is src g.coder ready-holds (omega (arith, ready_held)) is_one

      put : Put src probs row at i o (read_bool src (get_or probs (row + 1) 0) g.coder).next o' r
      put = p.is (read_bool src (get_or probs (row + 1) 0) g.coder).next went.holds (omega (arith, went.held, ready_held))

      signed-at : Coder
      signed-at = (read_bool src 128 (ran src (treed probs row nonzero_tree) (read_bool src (get_or probs (row + 1) 0) g.coder).next).next).next

      step : ran src (positions probs base at zeros (16 - (i + 1)) false (i + 1) (row_of base (i + 1) (class_of r.0)) (drawn o' true)) signed-at
          ≡ ran src (positions probs base at zeros (16 - first) true first from (drawn o₀ false)) c₀
      unfolding signed-at
      step =
          ap (λ (l : List ℤ). ran src (positions probs base at zeros (16 - (i + 1)) false (i + 1) (row_of base (i + 1) (class_of r.0)) (drawn l true)) signed-at) put.out
          ∙ sym (one-turn i row (drawn o some) g.coder r.0 h is_one p.some put.size)
          ∙ g.same

      -- the last position
      pub last : i + 1 ≡ 16 → Drew src (positions probs base at zeros (16 - first) true first from (drawn o₀ false)) c₀ o' (true, r.1)
      unfolding signed-at
      last l =
          let z = sym (all_done (i + 1) (row_of base (i + 1) (class_of r.0)) false (drawn o' true) signed-at (omega arith)) ∙ step in
          record {
            out = ap (λ (k : Got Drawn). k.got.out) z;
            some = ap (λ (k : Got Drawn). k.got.some) z;
            holds = subst (λ (k : Got Drawn). Holds src r.1 k.next) z put.holds;
          }

      module _ (row' : ℕ) (ro : row' ≡ row_of base (i + 1) (class_of r.0)) (l : i + 1 < 16) (b' : Bool) (one' : IsOne (get_or probs row' 0) r.1 b') (m : BoolDecoder) where
        step' : ran src (positions probs base at zeros (16 - (i + 1)) false (i + 1) row' (drawn o' true)) signed-at
            ≡ ran src (positions probs base at zeros (16 - first) true first from (drawn o₀ false)) c₀
        step' = ap (λ (k : ℕ). ran src (positions probs base at zeros (16 - (i + 1)) false (i + 1) k (drawn o' true)) signed-at) ro ∙ step

        holds_at : Holds src r.1 signed-at
        unfolding signed-at
        holds_at = put.holds

        pub one_on : b' ≡ true → After true (get_or probs row' 0) r.1 m → Going first from o₀ (i + 1) row' o' true m c₀
        one_on t' q' =
            let z : (read_bool src (get_or probs row' 0) signed-at).got ≡ true = sym (one'.is src signed-at holds_at) ∙ t' in
            let u = q'.is src signed-at holds_at (omega (arith, put.held)) z in
            record {
              coder = (read_bool src (get_or probs row' 0) signed-at).next;
              holds = u.holds;
              same = sym (goes_on (i + 1) row' (drawn o' true) signed-at l z) ∙ step';
            }

        pub ended : b' ≡ false → After false (get_or probs row' 0) r.1 m
            → Drew src (positions probs base at zeros (16 - first) true first from (drawn o₀ false)) c₀ o' (true, m)
        ended t' q' =
            let z : (read_bool src (get_or probs row' 0) signed-at).got ≡ false = sym (one'.is src signed-at holds_at) ∙ t' in
            let u = q'.is src signed-at holds_at (omega (arith, put.held)) z in
            let w = sym (ends (i + 1) row' (drawn o' true) signed-at l z) ∙ step' in
            record {
              out = ap (λ (k : Got Drawn). k.got.out) w;
              some = ap (λ (k : Got Drawn). k.got.some) w;
              holds = subst (λ (k : Got Drawn). Holds src m k.next) w u.holds;
            }

  pub finished : (first from : ℕ) (o₀ : List ℤ) (c₀ : Coder) (i row : ℕ) (o : List ℤ) (some : Bool) (e : BoolDecoder) → 16 ≤ i → Going first from o₀ i row o some e c₀
      → Drew src (positions probs base at zeros (16 - first) true first from (drawn o₀ false)) c₀ o (some, e)
  finished first from o₀ c₀ i row o some e h g =
      let z = sym (all_done i row true (drawn o some) g.coder h) ∙ g.same in
      record {
        out = ap (λ (k : Got Drawn). k.got.out) z;
        some = ap (λ (k : Got Drawn). k.got.some) z;
        holds = subst (λ (k : Got Drawn). Holds src e k.next) z g.holds;
      }
