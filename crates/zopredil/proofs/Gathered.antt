-- What gathering over lent slices answers: each refusal with what it leaves, and else the bytes of the neighbours.
-- Assumes nothing.
use Prim.Native.Nat.{ℕ}
use mathlib.Core.Path.{◌≡◌, refl, ap, ◌∙◌}
use mathlib.Core.List.{List}
use lib.ListN.{length, replicate}
use borrow.Author.Tests.{eq-eqb, ne_eqb}
use Rattle.macroblock.specs.Reply.{done, wrong_length, outside_picture}
use Rattle.lists.specs.Lists.{◌beside◌}
use Rattle.lists.proofs.Pairs.{pair}
use Rattle.rfc6386.specs.Picture.{neighbors_of}
use Rattle.picture_limits.proofs.Accepted.{Within, Lengths}
use Rattle.record_bytes.specs.Bytes.{bytes_of}
use Rattle.gathering.specs.Answers.{Gathered}
use Rattle.gathering.specs.Answers.{gathered, refused}
use Rattle.gathering.proofs.Gathers.{place-refused, lengths-refused, accepted}
use Rattle.zopredil.specs.Neighbours.{gather_answer}
use Rattle.zopredil.proofs.Record.{absent-zeros}

module _ (y u v : List ℕ) (w h c r : ℕ) (right «record» : List ℕ) where
  -- 1 for the record or the right-hand pixels: nothing is written
  pub record-refused : (length «record» ≡ 81 → ⊥) → gather_answer y u v w h c r right «record» ≡ (wrong_length beside «record»)
  unfolding gather_answer
  record-refused k = rw (ne_eqb _ _ k)

  pub right-refused : length «record» ≡ 81 → (length right ≡ 4 → ⊥) → gather_answer y u v w h c r right «record» ≡ (wrong_length beside «record»)
  unfolding gather_answer
  right-refused e k = rw (eq-eqb _ _ e, ne_eqb _ _ k)

  module _ (e : length «record» ≡ 81) (f : length right ≡ 4) where
    pub fits : gather_answer y u v w h c r right «record»
        ≡ ((gathered y u v w h c r right).reply beside bytes_of (gathered y u v w h c r right).neighbors)
    unfolding gather_answer
    fits = rw (eq-eqb _ _ e, eq-eqb _ _ f)

    zeros : (number : ℕ) → gathered y u v w h c r right ≡ refused number → gather_answer y u v w h c r right «record» ≡ (number beside replicate 81 0)
    zeros number g =
        fits ∙ pair (ap (λ (x : Gathered). x.reply) g) (ap (λ (x : Gathered). bytes_of x.neighbors) g ∙ absent-zeros)

    -- then 7 and 1 of gathering: the record is zeros
    pub place-zeros : (Within w h c r → ⊥) → gather_answer y u v w h c r right «record» ≡ (outside_picture beside replicate 81 0)
    place-zeros k = zeros outside_picture (place-refused y u v w h c r right _ refl k)

    pub lengths-zeros : Within w h c r → (Lengths (length y) (length u) (length v) w h → ⊥)
        → gather_answer y u v w h c r right «record» ≡ (wrong_length beside replicate 81 0)
    lengths-zeros p k = zeros wrong_length (lengths-refused y u v w h c r right _ refl p k)

    pub neighbors-given : Within w h c r → Lengths (length y) (length u) (length v) w h
        → gather_answer y u v w h c r right «record» ≡ (done beside bytes_of (neighbors_of y u v w c r right))
    neighbors-given p q =
        let g = accepted y u v w h c r right _ refl p q in
        fits ∙ pair (ap (λ (x : Gathered). x.reply) g) (ap (λ (x : Gathered). bytes_of x.neighbors) g)
