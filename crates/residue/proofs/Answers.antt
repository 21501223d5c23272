-- What a public function answers and leaves, by the outcome of its test. Assumes nothing.
use mathlib.Core.Bool.{true, false}
use mathlib.Core.Path.{◌≡◌, ap, ◌∙◌}
use mathlib.Core.List.{List}
use Prim.Native.Nat.{ℕ, ◌+◌, ◌*◌}
use lib.Dec.{eqb, eqb→eq}
use lib.IntN.{ℤ}
use lib.ListN.{length}
use Rattle.lists.proofs.Tests.{both-says}
use Rattle.macroblock.specs.Reply.{done, wrong_length, outside_plane}
use Rattle.rfc6386.specs.Dct.{idct}
use Rattle.rfc6386.specs.Residue.{summed, lies, added_at}
use Rattle.clipping.specs.Clipped.{block_clipped, clipped_at}
use Rattle.residue.specs.declared.Summed.{Summed}
use Rattle.residue.specs.Answer.{AddedInto, summed_block, same_lengths, residue_reply, residue_added, add_reply, added_into, add_clipped, added_reply}

module _ (p : List ℕ) (r : List ℤ) where
  pub block-given : {ys : List ℕ} {n : ℕ} → ys ≡ summed 16 p r → n ≡ block_clipped 16 p r
      → ◌≡◌ {A = Summed} (record { pixels = ys; clipped = n }) (summed_block p r)
  unfolding summed_block
  block-given e h = rw (e, h)

pub same-lengths-say : (p r o : ℕ) → same_lengths p r o ≡ true → (r ≡ p) × (o ≡ p)
unfolding same_lengths
same-lengths-say p r o e = let b = both-says (eqb r p) (eqb o p) e in (eqb→eq r p b.0, eqb→eq o p b.1)

module _ (p : List ℕ) (r : List ℤ) (o : List ℕ) where
  pub residue-given : (ys : List ℕ) → same_lengths (length p) (length r) (length o) ≡ true → ys ≡ summed (length p) p r
      → (done ≡ residue_reply (length p) (length r) (length o)) × (ys ≡ residue_added p r o)
  unfolding residue_reply residue_added
  residue-given ys t e = (rw t, rw t e)

  pub residue-refused : same_lengths (length p) (length r) (length o) ≡ false
      → (wrong_length ≡ residue_reply (length p) (length r) (length o)) × (o ≡ residue_added p r o)
  unfolding residue_reply residue_added
  residue-refused t = (rw t, rw t)

module _ (input : List ℤ) (s r c : ℕ) (l : List ℕ) where
  abbrev at : ℕ
  at = 4 * r * s + 4 * c

  pub into-given : (res : List ℤ) (ys : List ℕ) (n : ℕ) → lies (length l) s r c ≡ true → res ≡ idct input
      → ys ≡ added_at at s res l → n ≡ clipped_at at s res l
      → ◌≡◌ {A = AddedInto} (record { reply = done; clipped = n }) (added_reply input s r c l) × (ys ≡ added_into input s r c l)
  unfolding add_reply added_into add_clipped added_reply
  into-given res ys n t q e h = (
    rw t (ap (λ (k : ℕ). record { reply = done; clipped = k }) (h ∙ ap (λ (m : List ℤ). clipped_at at s m l) q)),
    rw t (e ∙ ap (λ (m : List ℤ). added_at at s m l) q),
  )

  pub into-refused : lies (length l) s r c ≡ false
      → ◌≡◌ {A = AddedInto} (record { reply = outside_plane; clipped = 0 }) (added_reply input s r c l) × (l ≡ added_into input s r c l)
  unfolding add_reply added_into add_clipped added_reply
  into-refused t = (rw t, rw t)
