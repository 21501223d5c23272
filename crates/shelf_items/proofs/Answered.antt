-- A shelf's turns, from the test of its lengths to its answer. Assumes nothing.
use Prim.Native.Nat.{ℕ, ◌+◌, ◌*◌, ◌<◌, ◌≤◌}
use mathlib.Core.Path.{◌≡◌, refl, sym, ap, subst}
use mathlib.Core.Bool.{Bool, true, false}
use mathlib.Core.List.{List, [], ◌∷◌}
use native.Mathlib.Omega.{arith}
use lib.ListN.{length, get_or}
use Rattle.lists.specs.Lists.{pick, ◌beside◌}
use Rattle.lists.proofs.Pairs.{pair}
use Rattle.std.specs.Prelude.{Ok, Err}
use Rattle.macroblock.specs.Reply.{done, wrong_length, number}
use Rattle.macroblock.specs.declared.reply.Refusal.{Refusal}
use Rattle.macroblock.proofs.Refusals.{number-more}
use Rattle.lists.proofs.Total.{total-≤}
use Rattle.reconstruct.specs.Answers.{MbAnswer}
use Rattle.drawing.proofs.Shape.{Shape}
use Rattle.shelf_items.specs.Shelf.{shelved, lengths_fit}
use Rattle.shelf_items.specs.Steps.{Plan, told, plan_if, planned, begun, Ready}
use Rattle.shelf_items.proofs.Turns.{fits, out_after, replies_after, count_after, out-done, replies-done, count-done}

-- ---- what the beginning says
module _ (n subs coeffs out replies clipped : ℕ) where
  done-by : (b : Bool) (u : Unit {0}) → told n (Ok u) ≡ plan_if b n → b ≡ true
  done-by true u e = refl
  done-by false u e = let h : 0 ≡ 1 = ap (λ (p : Plan). p.reply) e in absurd (omega (arith, h))

  -- a beginning that is done: every list fits
  pub begun-fits : (u : Unit {0}) → told n (Ok u) ≡ planned n subs coeffs out replies clipped → lengths_fit n subs coeffs out replies clipped ≡ true
  unfolding planned
  begun-fits u = done-by (lengths_fit n subs coeffs out replies clipped) u

  refused-by : (b : Bool) (r : Refusal) → told n (Err r) ≡ plan_if b n → (b ≡ false) × (number r ≡ wrong_length)
  refused-by true r e =
      let h : number r ≡ 0 = ap (λ (p : Plan). p.reply) e in
      let m = number-more r in
      absurd (omega (arith, h, m))
  refused-by false r e = (refl, ap (λ (p : Plan). p.reply) e)

  -- and one that is refused: some list does not
  pub begun-refused : (r : Refusal) → told n (Err r) ≡ planned n subs coeffs out replies clipped
      → (lengths_fit n subs coeffs out replies clipped ≡ false) × (number r ≡ wrong_length)
  unfolding planned
  begun-refused r = refused-by (lengths_fit n subs coeffs out replies clipped) r

-- ---- the plan
module _ (n subs coeffs out replies clipped : ℕ) where
  -- no more items than there are
  items-by : (b : Bool) → (plan_if b n).items ≤ n
  items-by true = omega arith
  items-by false = omega arith

  pub items-≤ : (planned n subs coeffs out replies clipped).items ≤ n
  unfolding planned
  items-≤ = items-by (lengths_fit n subs coeffs out replies clipped)

  -- where there is an item, every list fits
  some-by : (b : Bool) (i : ℕ) → i < (plan_if b n).items → b ≡ true
  some-by true i l = refl
  some-by false i l = absurd (omega (arith, l))

  pub some_fit : (i : ℕ) → i < (planned n subs coeffs out replies clipped).items → lengths_fit n subs coeffs out replies clipped ≡ true
  unfolding planned
  some_fit i l = some-by (lengths_fit n subs coeffs out replies clipped) i l

-- ---- the count before the first item
module _ (n subs coeffs out replies : ℕ) (clipped : List ℕ) where
  begun-length : (b : Bool) → lengths_fit n subs coeffs out replies (length clipped) ≡ b → length (pick b (0 ∷ []) clipped) ≡ length clipped
  begun-length true e = sym (fits n subs coeffs out replies (length clipped) e).clipped-fits
  begun-length false e = refl

  pub begun-keeps : length (begun n subs coeffs out replies clipped) ≡ length clipped
  unfolding begun
  begun-keeps = begun-length (lengths_fit n subs coeffs out replies (length clipped)) refl

module _ (item : ℕ → MbAnswer) (shape : (k : ℕ) → Shape (item k)) where
  -- ---- what a turn may rely on
  counts : (k : ℕ) → get_or (count_after item k (0 ∷ [])) 0 0 ≤ 384 * k
  counts k = rw (count-done item shape k) (let h = total-≤ 384 k (λ i. (item i).clipped) (λ i l. (shape i).counted) in omega (arith, h))

  one_place : (k : ℕ) → length (count_after item k (0 ∷ [])) ≡ 1
  one_place k = rw (count-done item shape k) refl

  module _ (n subs coeffs out replies : ℕ) (clipped : List ℕ) (fit : lengths_fit n subs coeffs out replies (length clipped) ≡ true) where
    pub turn-fits : (i : ℕ) {o r : ℕ} {start m : List ℕ} → i < n → o ≡ out → r ≡ replies → start ≡ begun n subs coeffs out replies clipped
        → m ≡ count_after item i start → (16 * i + 16 ≤ subs) × (400 * i + 400 ≤ coeffs) × Ready i o r m
    unfolding begun
    turn-fits i below eo er es em =
        let f = fits n subs coeffs out replies (length clipped) fit in (
          omega (arith, below, f.subs-fit),
          omega (arith, below, f.coeffs-fit),
          rw (em, es, fit)
              (record {
                planes = omega (arith, below, eo, f.out-fits);
                reply = omega (arith, below, er, f.replies-fit);
                place = one_place i;
                counted = counts i;
              }),
        )

  -- the same of a plan
  module _ (n subs coeffs out replies : ℕ) (clipped : List ℕ) {p : Plan} (e : p ≡ planned n subs coeffs out replies (length clipped)) where
    pub turn-ready : (i : ℕ) {o r : ℕ} {start m : List ℕ} → i < p.items → o ≡ out → r ≡ replies → start ≡ begun n subs coeffs out replies clipped
        → m ≡ count_after item i start → (16 * i + 16 ≤ subs) × (400 * i + 400 ≤ coeffs) × Ready i o r m
    turn-ready i l eo er es em =
        let q = subst (λ (z : Plan). i < z.items) e l in
        let h = items-≤ n subs coeffs out replies (length clipped) in
        turn-fits n subs coeffs out replies clipped (some_fit n subs coeffs out replies (length clipped) i q) i (omega (arith, h, q)) eo er es em

  -- ---- the answer
  module _ (n subs coeffs : ℕ) (out replies clipped : List ℕ) where
    pub answered : {o r c start : List ℕ} → lengths_fit n subs coeffs (length out) (length replies) (length clipped) ≡ true
        → o ≡ out_after item n out → r ≡ replies_after item n replies
        → start ≡ begun n subs coeffs (length out) (length replies) clipped → c ≡ count_after item n start
        → (done beside o beside r beside c)
        ≡ pick (lengths_fit n subs coeffs (length out) (length replies) (length clipped)) (shelved n item) (wrong_length beside out beside replies beside clipped)
    unfolding shelved begun
    answered fit eo er es ec =
        let f = fits n subs coeffs (length out) (length replies) (length clipped) fit in
        rw (eo, er, ec, es, fit)
        (pair refl (pair (out-done item shape n out f.out-fits) (pair (replies-done item shape n replies f.replies-fit) (count-done item shape n))))

    pub not_begun : {c : List ℕ} (e : Refusal) → told n (Err e) ≡ planned n subs coeffs (length out) (length replies) (length clipped)
        → c ≡ begun n subs coeffs (length out) (length replies) clipped
        → (number e beside out beside replies beside c)
        ≡ pick (lengths_fit n subs coeffs (length out) (length replies) (length clipped)) (shelved n item) (wrong_length beside out beside replies beside clipped)
    unfolding begun
    not_begun e h es = let p = begun-refused n subs coeffs (length out) (length replies) (length clipped) e h in rw (es, p.0, p.1) refl
