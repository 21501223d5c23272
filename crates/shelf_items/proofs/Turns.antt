-- The turns of a shelf: what the first k items make of the lists that are written, what a turn may rely on, and what stands at the end. `item k` is any
-- item k; that each has 384 pixels and at most 384 sums counted is all that is asked of it. Assumes nothing.
use Prim.Native.Nat.{ℕ, zero, suc, ◌+◌, ◌*◌, ◌≤◌}
use mathlib.Core.Path.{◌≡◌, refl, sym, ap, ◌∙◌}
use mathlib.Core.Bool.{true}
use mathlib.Core.List.{List, [], ◌∷◌, ◌++◌, append_assoc, append-nil}
use native.Mathlib.Nat.{mul-zero, mul-suc}
use native.Mathlib.Numerals.{add-one}
use native.Mathlib.Omega.{arith}
use borrow.Author.Tests.{eqb-true}
use borrow.Rule.Slice.PartMut.{put_mid}
use lib.Dec.{eqb}
use lib.ListN.{length, get_or, set, drop, length-append}
use lib.Seq.{take_at, drop_at, drop-drop, drop-length}
use Rattle.lists.specs.Lists.{table, turns, store, both, total, joined}
use Rattle.lists.proofs.Table.{table-all}
use Rattle.lists.proofs.Tests.{left-holds, right-holds}
use Rattle.reconstruct.specs.Answers.{MbAnswer}
use Rattle.drawing.specs.Drawn.{planes_of}
use Rattle.drawing.proofs.Shape.{Shape, planes-length}
use Rattle.shelf_items.specs.Shelf.{lengths_fit}

-- ---- what the test of the lengths says
pub record Fits (n subs coeffs out replies clipped : ℕ) : Type 0 where
  pub subs-fit : subs ≡ 16 * n
  pub coeffs-fit : coeffs ≡ 400 * n
  pub out-fits : out ≡ 384 * n
  pub replies-fit : replies ≡ n
  pub clipped-fits : clipped ≡ 1

pub fits : (n subs coeffs out replies clipped : ℕ) → lengths_fit n subs coeffs out replies clipped ≡ true → Fits n subs coeffs out replies clipped
unfolding lengths_fit
fits n subs coeffs out replies clipped e =
    let last = both (eqb replies n) (eqb clipped 1) in
    let three = both (eqb out (384 * n)) last in
    let four = both (eqb coeffs (400 * n)) three in
    let e₁ = right-holds (eqb subs (16 * n)) four e in
    let e₂ = right-holds (eqb coeffs (400 * n)) three e₁ in
    let e₃ = right-holds (eqb out (384 * n)) last e₂ in
    record {
      subs-fit = eqb-true subs (16 * n) (left-holds (eqb subs (16 * n)) four e);
      coeffs-fit = eqb-true coeffs (400 * n) (left-holds (eqb coeffs (400 * n)) three e₁);
      out-fits = eqb-true out (384 * n) (left-holds (eqb out (384 * n)) last e₂);
      replies-fit = eqb-true replies n (left-holds (eqb replies n) (eqb clipped 1) e₃);
      clipped-fits = eqb-true clipped 1 (right-holds (eqb replies n) (eqb clipped 1) e₃);
    }

-- ---- lists of w each, one after another
pub joined_length : (w : ℕ) (f : ℕ → List ℕ) → ((k : ℕ) → length (f k) ≡ w) → (n : ℕ) → length (joined n f) ≡ w * n
unfolding joined
joined_length w f size zero = sym (mul-zero w)
joined_length w f size (suc n) = length-append (joined n f) (f n) ∙ rw (joined_length w f size n, size n, mul-suc w n)

-- ---- what the first k items make of the lists
module _ (item : ℕ → MbAnswer) where
  unfoldable pub out_after : ℕ → List ℕ → List ℕ
  out_after k out = turns k (λ i l. put_mid (384 * i) 384 l (planes_of (item i))) out

  unfoldable pub replies_after : ℕ → List ℕ → List ℕ
  replies_after k replies = turns k (store (λ i. i) (λ i. (item i).reply)) replies

  unfoldable pub count_after : ℕ → List ℕ → List ℕ
  count_after k clipped = turns k (λ i l. (get_or l 0 0 + (item i).clipped) ∷ []) clipped

  pub out-zero : (out : List ℕ) → out_after 0 out ≡ out
  unfolding out_after turns
  out-zero out = refl

  pub out-next : (k : ℕ) (out : List ℕ) → out_after (k + 1) out ≡ put_mid (384 * k) 384 (out_after k out) (planes_of (item k))
  unfolding out_after turns
  out-next k out = rw add-one

  pub replies-zero : (replies : List ℕ) → replies_after 0 replies ≡ replies
  unfolding replies_after turns
  replies-zero replies = refl

  pub replies-next : (k : ℕ) (replies : List ℕ) → replies_after (k + 1) replies ≡ set (replies_after k replies) k (item k).reply
  unfolding replies_after turns
  replies-next k replies = rw add-one

  pub count-zero : (clipped : List ℕ) → count_after 0 clipped ≡ clipped
  unfolding count_after turns
  count-zero clipped = refl

  pub count_next : (k : ℕ) (clipped : List ℕ) → count_after (k + 1) clipped ≡ (get_or (count_after k clipped) 0 0 + (item k).clipped) ∷ []
  unfolding count_after turns
  count_next k clipped = rw add-one

  -- a turn of a loop: item k was drawn as r, and put into what the items before it left
  module _ (k : ℕ) (l m : List ℕ) {z : List ℕ} (r : MbAnswer) (e : r ≡ item k) where
    pub out-turn : m ≡ out_after k l → z ≡ put_mid (384 * k) 384 m (planes_of r) → z ≡ out_after (k + 1) l
    out-turn p q = rw (out-next k l, ← p, ← e) q

    pub replies-turn : m ≡ replies_after k l → z ≡ set m k r.reply → z ≡ replies_after (k + 1) l
    replies-turn p q = rw (replies-next k l, ← p, ← e) q

    pub count_turn : m ≡ count_after k l → z ≡ (get_or m 0 0 + r.clipped) ∷ [] → z ≡ count_after (k + 1) l
    count_turn p q = rw (count_next k l, ← p, ← e) q

  module _ (shape : (k : ℕ) → Shape (item k)) where
    -- the first k items one after another, and what stood behind them
    out-so-far : (n : ℕ) (out : List ℕ) → 384 * n ≤ length out → out_after n out ≡ joined n (λ k. planes_of (item k)) ++ drop (384 * n) out
    unfolding out_after turns joined
    out-so-far zero out h = refl
    out-so-far (suc n) out h =
        let f : List ℕ = joined n (λ k. planes_of (item k)) in
        let l : length f ≡ 384 * n = joined_length 384 (λ k. planes_of (item k)) (λ k. planes-length (shape k)) n in
        let g : 384 * n + 384 ≡ 384 * suc n = omega arith in
        ap (λ (m : List ℕ). put_mid (384 * n) 384 m (planes_of (item n))) (out-so-far n out (omega (arith, h)))
        ∙ rw (take_at f (drop (384 * n) out) (384 * n) l, drop_at f (drop (384 * n) out) (384 * n) l)
        (sym (append_assoc f (planes_of (item n)) (drop 384 (drop (384 * n) out)))
        ∙ ap (λ (m : List ℕ). (f ++ planes_of (item n)) ++ m) (drop-drop 384 (384 * n) out ∙ ap (λ (m : ℕ). drop m out) g))

    pub out-done : (n : ℕ) (out : List ℕ) → length out ≡ 384 * n → out_after n out ≡ joined n (λ k. planes_of (item k))
    out-done n out e =
        out-so-far n out (omega (arith, e))
        ∙ ap (λ (m : List ℕ). joined n (λ k. planes_of (item k)) ++ m) (ap (λ (m : ℕ). drop m out) (sym e) ∙ drop-length out)
        ∙ append-nil (joined n (λ k. planes_of (item k)))

    pub replies-done : (n : ℕ) (replies : List ℕ) → length replies ≡ n → replies_after n replies ≡ table n (λ k. (item k).reply)
    unfolding replies_after
    replies-done n replies e = table-all n (λ k. (item k).reply) replies e

    pub count-done : (n : ℕ) → count_after n (0 ∷ []) ≡ total n (λ k. (item k).clipped) ∷ []
    unfolding count_after turns total
    count-done zero = refl
    count-done (suc n) = ap (λ (l : List ℕ). (get_or l 0 0 + (item n).clipped) ∷ []) (count-done n)
