-- The blocks of a macroblock, one after the other, with their contexts. Assumes nothing.
use Prim.Native.Nat.{ℕ, suc, ◌+◌, ◌-◌, ◌*◌, ◌≤◌, ◌<◌}
use mathlib.Core.Path.{◌≡◌, refl, sym, ap, subst, ◌∙◌}
use mathlib.Core.Bool.{Bool, true, false}
use mathlib.Core.List.{List}
use native.Mathlib.Omega.{arith}
use lib.IntN.{ℤ}
use lib.ListN.{get_or, set}
use Rattle.bool_decoder.specs.BoolCoder.{Coder, Got, Reads, done, ran, read_bool, bit_of}
use Rattle.bool_decoder.specs.Held.{Holds, Ready, IsOne, After}
use Rattle.bool_decoder.specs.declared.BoolDecoder.{BoolDecoder}
use Rattle.bool_decoder.proofs.Runs.{ran_then}
use Rattle.tokens.specs.Tokens.{Drawn, Thread, positions, row_of, band_of, above_slot, left_slot, base_of, first_of, count_of, marked, one_block, blocks, all_blocks}
use Rattle.tokens.specs.Walks.{Band, Draws, Threads, drawn, thread_of}
use Rattle.tokens.proofs.Positions.{goes_on, ends, gotten}

abbrev threaded : Thread → Coder → Got Thread
threaded t c = record { got = t; next = c }

ran-done : (src : List ℕ) (t : Thread) (c : Coder) → ran src (done t) c ≡ threaded t c
unfolding ran
ran-done src t c = refl

module _ (src probs : List ℕ) (zeros y2 : Bool) (n : ℕ) (above left : List Bool) (o : List ℤ) where
  abbrev t₀ : Thread
  t₀ = thread_of above left o

  abbrev all : Bool → ℕ → Reads Drawn
  all z row = positions probs (base_of y2 n) (16 * n) zeros (16 - first_of y2 n) z (first_of y2 n) row (drawn o false)

  abbrev row₀ : ℕ
  row₀ = row_of (base_of y2 n) (first_of y2 n) (count_of n t₀)

  ran-block : (c : Coder) → ran src (one_block probs zeros y2 n t₀) c ≡ threaded (marked n t₀ (ran src (all false row₀) c).got) (ran src (all false row₀) c).next
  unfolding one_block
  ran-block c =
      ran_then src (all false row₀) (λ x. done (marked n t₀ x)) c
      ∙ ran-done src (marked n t₀ (ran src (all false row₀) c).got) (ran src (all false row₀) c).next

  module _ (a l : ℕ) (ae : a ≡ above_slot n) (le : l ≡ left_slot n) (row : ℕ) (re : row ≡ row₀) (first : first_of y2 n < 16) (d e : BoolDecoder) (y : Ready src d e)
      (b : Bool) (one : IsOne (get_or probs row 0) e b) (f : BoolDecoder) where
    marked_by : (x : Drawn) → thread_of (set above a x.some) (set left l x.some) x.out ≡ marked n t₀ x
    marked_by x = rw (ae, le)

    pub block-some : b ≡ true → After true (get_or probs row 0) e f → (o' : List ℤ) (r : Bool × BoolDecoder) → Draws src (all true row) f o' r
        → Threads src (one_block probs zeros y2 n t₀) d (thread_of (set above a r.0) (set left l r.0) o') r.1
    block-some t q o' r w =
        record {
          is =
              λ c h.
              let k = y.held (omega (arith, h.some)) in
              let hr = y.holds c h in
              let z : (read_bool src (get_or probs row 0) c).got ≡ true = sym (one.is src c hr) ∙ t in
              let u = q.is src c hr (omega arith) z in
              let x = w.is (read_bool src (get_or probs row 0) c).next u.holds in
              let s : ran src (all false row) c ≡ ran src (all true row) (read_bool src (get_or probs row 0) c).next
              = goes_on src probs (base_of y2 n) (16 * n) zeros (first_of y2 n) row (drawn o false) c first z in
              let v : ran src (all false row₀) c ≡ ran src (all true row) (read_bool src (get_or probs row 0) c).next
              = ap (λ (i : ℕ). ran src (all false i) c) (sym re) ∙ s in
              let g : Got Drawn = ran src (all true row) (read_bool src (get_or probs row 0) c).next in
              let m : ran src (one_block probs zeros y2 n t₀) c ≡ threaded (marked n t₀ (ran src (all true row) (read_bool src (get_or probs row 0) c).next).got) (ran src (all true row) (read_bool src (get_or probs row 0) c).next).next
              = ran-block c ∙ ap (λ (i : Got Drawn). threaded (marked n t₀ i.got) i.next) v in
              record {
                thread =
                    ap (λ (i : Bool). thread_of (set above a i) (set left l i) o') x.some
                    ∙ ap (λ (i : List ℤ). thread_of (set above a (ran src (all true row) (read_bool src (get_or probs row 0) c).next).got.some) (set left l (ran src (all true row) (read_bool src (get_or probs row 0) c).next).got.some) i) x.out
                    ∙ marked_by (ran src (all true row) (read_bool src (get_or probs row 0) c).next).got
                    ∙ sym (ap (λ (i : Got Thread). i.got) m);
                holds = subst (λ (i : Got Thread). Holds src r.1 i.next) (sym m) x.holds;
              };
        }

    pub block_none : b ≡ false → After false (get_or probs row 0) e f
        → Threads src (one_block probs zeros y2 n t₀) d (thread_of (set above a false) (set left l false) o) f
    block_none t q =
        record {
          is =
              λ c h.
              let k = y.held (omega (arith, h.some)) in
              let hr = y.holds c h in
              let z : (read_bool src (get_or probs row 0) c).got ≡ false = sym (one.is src c hr) ∙ t in
              let u = q.is src c hr (omega arith) z in
              let v : ran src (all false row₀) c ≡ gotten src probs (base_of y2 n) (16 * n) zeros (drawn o false) (read_bool src (get_or probs row 0) c).next
              = ap (λ (i : ℕ). ran src (all false i) c) (sym re) ∙ ends src probs (base_of y2 n) (16 * n) zeros (first_of y2 n) row (drawn o false) c first z in
              let m : ran src (one_block probs zeros y2 n t₀) c ≡ threaded (marked n t₀ (drawn o false)) (read_bool src (get_or probs row 0) c).next
              = ran-block c ∙ ap (λ (i : Got Drawn). threaded (marked n t₀ i.got) i.next) v in
              record {
                thread = marked_by (drawn o false) ∙ sym (ap (λ (i : Got Thread). i.got) m);
                holds = subst (λ (i : Got Thread). Holds src f i.next) (sym m) u.holds;
              };
        }

-- the same from the numbers that the code has
module _ (src probs : List ℕ) (zeros y2 : Bool) (n : ℕ) (above left : List Bool) (o : List ℤ) (a l : ℕ) (ae : a ≡ above_slot n) (le : l ≡ left_slot n)
    (base first band count : ℕ) (be : base ≡ base_of y2 n) (fe : first ≡ first_of y2 n) (low : first ≤ 1) (ba : Band first band)
    (co : count ≡ 11 * (bit_of (get_or above a false) + bit_of (get_or left l false))) (d e : BoolDecoder) (y : Ready src d e)
    (b : Bool) (one : IsOne (get_or probs (base + band + count) 0) e b) (f : BoolDecoder) where
  row_is : base + band + count ≡ row_of (base_of y2 n) (first_of y2 n) (count_of n (thread_of above left o))
  row_is =
      let p : band ≡ 33 * band_of (first_of y2 n) = ba.is (omega arith) ∙ ap (λ (i : ℕ). 33 * band_of i) fe in
      let q : count ≡ 11 * count_of n (thread_of above left o)
      = co ∙ ap (λ (i : ℕ). 11 * (bit_of (get_or above i false) + bit_of (get_or left l false))) ae
      ∙ ap (λ (i : ℕ). 11 * (bit_of (get_or above (above_slot n) false) + bit_of (get_or left i false))) le in
      omega arith

  starts : first_of y2 n < 16
  starts = omega arith

  pub some_read : b ≡ true → After true (get_or probs (base + band + count) 0) e f → (o' : List ℤ) (r : Bool × BoolDecoder)
      → Draws src (positions probs base (16 * n) zeros (16 - first) true first (base + band + count) (drawn o false)) f o' r
      → Threads src (one_block probs zeros y2 n (thread_of above left o)) d (thread_of (set above a r.0) (set left l r.0) o') r.1
  some_read t q o' r w =
      block-some src probs zeros y2 n above left o a l ae le (base + band + count) row_is starts d e y b one f t q o' r
      (subst (λ (i : ℕ). Draws src (positions probs (base_of y2 n) (16 * n) zeros (16 - i) true i (base + band + count) (drawn o false)) f o' r) fe
      (subst (λ (i : ℕ). Draws src (positions probs i (16 * n) zeros (16 - first) true first (base + band + count) (drawn o false)) f o' r) be w))

  pub none_read : b ≡ false → After false (get_or probs (base + band + count) 0) e f
      → Threads src (one_block probs zeros y2 n (thread_of above left o)) d (thread_of (set above a false) (set left l false) o) f
  none_read t q = block_none src probs zeros y2 n above left o a l ae le (base + band + count) row_is starts d e y b one f t q

-- the loop over the blocks
module _ (src probs : List ℕ) (zeros y2 : Bool) where
  pub record Going (t₀ : Thread) (n : ℕ) (t : Thread) (e : BoolDecoder) (c₀ : Coder) : Type 0 where
    pub coder : Coder
    pub holds : Holds src e coder
    pub same : ran src (blocks probs zeros y2 (25 - n) n t) coder ≡ ran src (all_blocks probs zeros y2 t₀) c₀

  one_more : (n : ℕ) (t : Thread) (c : Coder) → n < 25
      → ran src (blocks probs zeros y2 (25 - n) n t) c
      ≡ ran src (blocks probs zeros y2 (25 - (n + 1)) (n + 1) (ran src (one_block probs zeros y2 n t) c).got) (ran src (one_block probs zeros y2 n t) c).next
  unfolding blocks
  one_more n t c h =
      let e : 25 - n ≡ suc (25 - (n + 1)) = omega arith in
      ap (λ (k : ℕ). ran src (blocks probs zeros y2 k n t) c) e
      ∙ ran_then src (one_block probs zeros y2 n t) (λ u. blocks probs zeros y2 (25 - (n + 1)) (n + 1) u) c

  pub blocks-on : (t₀ : Thread) (n : ℕ) (t t' : Thread) (e r : BoolDecoder) (c₀ : Coder) → n < 25 → Threads src (one_block probs zeros y2 n t) e t' r → Going t₀ n t e c₀
      → Going t₀ (n + 1) t' r c₀
  blocks-on t₀ n t t' e r c₀ h w g =
      let x = w.is g.coder g.holds in
      record {
        coder = (ran src (one_block probs zeros y2 n t) g.coder).next;
        holds = x.holds;
        same =
            ap (λ (u : Thread). ran src (blocks probs zeros y2 (25 - (n + 1)) (n + 1) u) (ran src (one_block probs zeros y2 n t) g.coder).next) x.thread
            ∙ sym (one_more n t g.coder h) ∙ g.same;
      }

  no_more : (n : ℕ) (t : Thread) (c : Coder) → 25 ≤ n → ran src (blocks probs zeros y2 (25 - n) n t) c ≡ threaded t c
  unfolding blocks
  no_more n t c h = let e : 25 - n ≡ 0 = omega arith in ap (λ (k : ℕ). ran src (blocks probs zeros y2 k n t) c) e ∙ ran-done src t c

  pub blocks-done : (t₀ : Thread) (n : ℕ) (t : Thread) (d e : BoolDecoder) → 25 ≤ n → ((c : Coder) → Holds src d c → Going t₀ n t e c)
      → Threads src (all_blocks probs zeros y2 t₀) d t e
  blocks-done t₀ n t d e h g =
      record {
        is =
            λ c k.
            let x = g c k in
            let z = sym (no_more n t x.coder h) ∙ x.same in
            record {
              thread = ap (λ (i : Got Thread). i.got) z;
              holds = subst (λ (i : Got Thread). Holds src e i.next) z x.holds;
            };
      }
