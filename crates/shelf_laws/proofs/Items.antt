-- What stands for item k in the lists that a shelf writes. Assumes nothing.
use Prim.Native.Nat.{ℕ, zero, suc, ◌+◌, ◌*◌, ◌<◌, ◌≤◌}
use mathlib.Core.Path.{◌≡◌, refl, ap, ◌∙◌}
use mathlib.Core.List.{List, [], ◌∷◌}
use mathlib.Core.Logic.{⊎_elim}
use native.Mathlib.Nat.{eq-or-lt_of_le, le_of_eq, mul-suc, mul-le-mul_left}
use native.Mathlib.Omega.{arith}
use lib.ListN.{length, take, drop, length-drop}
use lib.Seq.{drop_at, take_all, take-append-le, drop-append-le}
use Rattle.lists.specs.Lists.{item_of, joined}
use Rattle.lists.proofs.Table.{table-ext}
use Rattle.lists.proofs.Pairs.{pair}
use Rattle.lists.proofs.Total.{total_ext}
use Rattle.reconstruct.specs.Answers.{MbAnswer}
use Rattle.drawing.specs.Drawn.{planes_of}
use Rattle.shelf_items.specs.Shelf.{shelved}
use Rattle.shelf_items.proofs.Turns.{joined_length}

-- ---- shelves of equal items are equal
joined-ext : (n : ℕ) (f g : ℕ → List ℕ) → ((k : ℕ) → k < n → f k ≡ g k) → joined n f ≡ joined n g
unfolding joined
joined-ext zero f g h = refl
joined-ext (suc n) f g h = rw (joined-ext n f g (λ k l. h k (omega arith)), h n (omega arith))

pub shelved-ext : (n : ℕ) (f g : ℕ → MbAnswer) → ((k : ℕ) → k < n → f k ≡ g k) → shelved n f ≡ shelved n g
unfolding shelved
shelved-ext n f g h =
    pair refl
    (pair (joined-ext n (λ k. planes_of (f k)) (λ k. planes_of (g k)) (λ k l. ap planes_of (h k l)))
    (pair (table-ext n (λ k. (f k).reply) (λ k. (g k).reply) (λ k l. ap (λ (r : MbAnswer). r.reply) (h k l)))
    (ap (λ (c : ℕ). c ∷ []) (total_ext n (λ k. (f k).clipped) (λ k. (g k).clipped) (λ k l. ap (λ (r : MbAnswer). r.clipped) (h k l))))))

-- ---- the bytes of item k, where every item has w of them
module _ (w : ℕ) (f : ℕ → List ℕ) (size : (k : ℕ) → length (f k) ≡ w) where
  later : (n k : ℕ) → k ≤ n → w * k ≤ w * n
  later n k h = mul-le-mul_left w h

  pub item-at : (n k : ℕ) → k < n → item_of w k (joined n f) ≡ f k
  unfolding joined
  item-at zero k h = absurd (omega (arith, h))
  item-at (suc n) k h =
      let below : k ≤ n = omega (arith, h) in
      ⊎_elim
      (λ e.
      rw e
      (ap (λ (l : List ℕ). take w l) (drop_at (joined n f) (f n) (w * n) (joined_length w f size n)) ∙ take_all w (f n) (le_of_eq (size n))))
      (λ l.
      let whole : w * k + w ≤ length (joined n f) = (rw (joined_length w f size n, ← mul-suc w k) (later n (suc k) l)) in
      ap (λ (m : List ℕ). take w m) (drop-append-le (w * k) (joined n f) (f n) (omega (arith, whole)))
      ∙ take-append-le w (drop (w * k) (joined n f)) (f n) (rw length-drop (omega (arith, whole))) ∙ item-at n k l)
      (eq-or-lt_of_le below)
