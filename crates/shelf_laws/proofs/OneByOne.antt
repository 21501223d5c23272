-- A shelf of bytes is its macroblocks drawn one by one: what it leaves of item k is what `zopredil_macroblock` leaves of that item's bytes,
-- whatever stood in its slices, and the count is the sum of theirs. Assumes nothing.
use Prim.Native.Nat.{ℕ, ◌+◌, ◌*◌, ◌<◌, ◌≤◌}
use mathlib.Core.Path.{◌≡◌, refl, sym, ap, ◌∙◌}
use mathlib.Core.Bool.{Bool, true, false}
use mathlib.Core.List.{List, [], ◌∷◌}
use native.Mathlib.Nat.{add-zero}
use native.Mathlib.Omega.{arith}
use borrow.Author.Tests.{eq-eqb}
use lib.Dec.{lit<}
use lib.IntN.{ℤ}
use lib.ListN.{length, get_or, drop, replicate}
use lib.Seq.{get_or-take, get_or-drop}
use Rattle.lists.specs.Lists.{pick, item_of, ◌beside◌, total}
use Rattle.lists.proofs.Table.{table_at}
use Rattle.slices.proofs.Copied.{or-zeros-fit}
use Rattle.slices.proofs.Parts.{part_length}
use Rattle.macroblock.specs.Reply.{unknown_byte}
use Rattle.lists.proofs.Total.{total_ext}
use Rattle.record_bytes.specs.Bytes.{marks_known}
use Rattle.reconstruct.specs.Answers.{MbAnswer, refusal}
use Rattle.drawing.specs.Drawn.{planes_of, drawn_bytes}
use Rattle.drawing.proofs.Shape.{planes-length}
use Rattle.zopredil.specs.Macroblocks.{sub_modes_fit, mb_answer, lengths_fit as mb_fit}
use Rattle.shelf_items.specs.Shelf.{shelved, lengths_fit, bytes_at, bytes_answer}
use Rattle.shelf_items.proofs.Items.{bytes-shape}
use Rattle.shelf_laws.proofs.Items.{item-at}

-- ---- one item
byte_at : (n k i : ℕ) (l : List ℕ) → i < n → get_or (item_of n k l) i 0 ≡ get_or l (n * k + i) 0
byte_at n k i l h = get_or-take n (drop (n * k) l) i 0 h ∙ get_or-drop (n * k) l i 0

module _ (modes records subs : List ℕ) (coeffs : List ℤ) (out clipped : List ℕ) (k : ℕ) where
  -- the call for item k alone
  abbrev pub alone : ℕ × (List ℕ × List ℕ)
  alone = mb_answer (item_of 3 k modes) (item_of 16 k subs) (item_of 81 k records) (item_of 400 k coeffs) out clipped

  abbrev told : MbAnswer → ℕ × (List ℕ × List ℕ)
  told r = r.reply beside planes_of r beside r.clipped ∷ []

  marks-by : (b : Bool) (r : MbAnswer) → pick b (told r) (unknown_byte beside replicate 384 0 beside 0 ∷ []) ≡ told (pick b r (refusal unknown_byte))
  unfolding planes_of refusal
  marks-by true r = refl
  marks-by false r = refl

  module _ (m : 3 * k + 3 ≤ length modes) (r : 81 * k + 81 ≤ length records) (s : 16 * k + 16 ≤ length subs) (c : 400 * k + 400 ≤ length coeffs)
      (o : length out ≡ 384) (one : length clipped ≡ 1) where
    fit : mb_fit (length (item_of 3 k modes)) (length (item_of 16 k subs)) (length (item_of 81 k records)) (length (item_of 400 k coeffs)) (length out) (length clipped) ≡ true
    unfolding mb_fit sub_modes_fit
    fit = rw (part_length 3 (3 * k) modes m, part_length 16 (16 * k) subs s, part_length 81 (81 * k) records r, part_length 400 (400 * k) coeffs c, o, one) refl

    pub item-alone : alone ≡ told (bytes_at modes records subs coeffs k)
    unfolding mb_answer bytes_at drawn_bytes
    item-alone =
        rw (
          fit,
          byte_at 3 k 0 modes (lit< tt) ∙ ap (λ (j : ℕ). get_or modes j 0) (add-zero (3 * k)),
          byte_at 3 k 1 modes (lit< tt),
          byte_at 3 k 2 modes (lit< tt),
          or-zeros-fit 0 16 (item_of 16 k subs) (part_length 16 (16 * k) subs s),
          eq-eqb (length (item_of 16 k subs)) 16 (part_length 16 (16 * k) subs s),
        )
        (marks-by (marks_known (item_of 81 k records)) _)

-- ---- every item of an accepted shelf
module _ (modes records subs : List ℕ) (coeffs : List ℤ) (out replies clipped : List ℕ) where
  abbrev answer : ℕ × (List ℕ × (List ℕ × List ℕ))
  answer = bytes_answer modes records subs coeffs out replies clipped

  -- every list fits the items
  pub record Accepted : Type 0 where
    pub modes-fit : length modes ≡ 3 * length replies
    pub records-fit : length records ≡ 81 * length replies
    pub subs-fit : length subs ≡ 16 * length replies
    pub coeffs-fit : length coeffs ≡ 400 * length replies
    pub out-fits : length out ≡ 384 * length replies
    pub one-count : length clipped ≡ 1

  accepted : Accepted → answer ≡ shelved (length replies) (bytes_at modes records subs coeffs)
  unfolding bytes_answer lengths_fit
  accepted a =
      let n = length replies in
      rw (
        eq-eqb (length modes) (3 * n) a.modes-fit,
        eq-eqb (length records) (81 * n) a.records-fit,
        eq-eqb (length subs) (16 * n) a.subs-fit,
        eq-eqb (length coeffs) (400 * n) a.coeffs-fit,
        eq-eqb (length out) (384 * n) a.out-fits,
        eq-eqb n n refl,
        eq-eqb (length clipped) 1 a.one-count,
      ) refl

  -- what is found in the slices of the call for one item does not matter
  module _ (found counted : List ℕ) (f : length found ≡ 384) (g : length counted ≡ 1) (a : Accepted) where
    one : (k : ℕ) → k < length replies → alone modes records subs coeffs found counted k
        ≡ told modes records subs coeffs found counted k (bytes_at modes records subs coeffs k)
    one k l =
        item-alone modes records subs coeffs found counted k (omega (arith, l, a.modes-fit)) (omega (arith, l, a.records-fit))
        (omega (arith, l, a.subs-fit)) (omega (arith, l, a.coeffs-fit)) f g

    pub item-reply : (k : ℕ) → k < length replies → get_or answer.1.1.0 k 0 ≡ (alone modes records subs coeffs found counted k).0
    unfolding shelved
    item-reply k l =
        ap (λ (w : ℕ × (List ℕ × (List ℕ × List ℕ))). get_or w.1.1.0 k 0) (accepted a)
        ∙ table_at (length replies) (λ j. (bytes_at modes records subs coeffs j).reply) k 0 l
        ∙ ap (λ (w : ℕ × (List ℕ × List ℕ)). w.0) (sym (one k l))

    pub item-bytes : (k : ℕ) → k < length replies → item_of 384 k answer.1.0 ≡ (alone modes records subs coeffs found counted k).1.0
    unfolding shelved
    item-bytes k l =
        ap (λ (w : ℕ × (List ℕ × (List ℕ × List ℕ))). item_of 384 k w.1.0) (accepted a)
        ∙ item-at 384 (λ j. planes_of (bytes_at modes records subs coeffs j)) (λ j. planes-length (bytes-shape modes records subs coeffs j)) (length replies) k l
        ∙ ap (λ (w : ℕ × (List ℕ × List ℕ)). w.1.0) (sym (one k l))

    pub counts-sum : answer.1.1.1 ≡ total (length replies) (λ k. get_or (alone modes records subs coeffs found counted k).1.1 0 0) ∷ []
    unfolding shelved
    counts-sum =
        ap (λ (w : ℕ × (List ℕ × (List ℕ × List ℕ))). w.1.1.1) (accepted a)
        ∙ ap (λ (c : ℕ). c ∷ [])
        (total_ext (length replies) (λ k. (bytes_at modes records subs coeffs k).clipped) (λ k. get_or (alone modes records subs coeffs found counted k).1.1 0 0)
        (λ k l. ap (λ (w : ℕ × (List ℕ × List ℕ)). get_or w.1.1 0 0) (sym (one k l))))
