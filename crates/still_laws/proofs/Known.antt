-- The reply of a macroblock and of a turn: 0 where its bytes are known, else 8. Assumes nothing.
use Prim.Native.Nat.{ℕ, ◌/◌, ◌%◌}
use mathlib.Core.Bool.{Bool, true, false}
use mathlib.Core.Path.{◌≡◌, refl, sym, ◌∙◌}
use mathlib.Core.List.{List}
use mathlib.Core.Logic.{⊎_elim}
use native.Mathlib.Omega.{arith}
use borrow.Author.Tests.{eqb-true, eqb-false, eq-eqb}
use lib.Dec.{eqb}
use lib.IntN.{ℤ}
use lib.ListN.{length, drop, length-drop}
use Rattle.lists.specs.Lists.{pick, both, within, ◌beside◌}
use Rattle.macroblock.specs.Reply.{done, unknown_byte}
use Rattle.macroblock.specs.declared.neighbors.MbNeighbors.{MbNeighbors}
use Rattle.macroblock.specs.Says.{y_reply, y_mode}
use Rattle.rfc6386.specs.Edges.{is_b}
use Rattle.reconstruct.specs.Answers.{MbAnswer, refusal, whole_of, parts_of, non_b, walk_b}
use Rattle.drawing.specs.Drawn.{modes_known, modes_of, drawn_b, drawn_in, drawn}
use Rattle.gathering.specs.Answers.{gathered}
use Rattle.canvas.specs.Into.{made, drawn_into}
use Rattle.still.specs.Picture.{Progress, drawn_at, turn}
use Rattle.still_laws.specs.Words.{luma_byte, chroma_byte, skip_byte, subs_at, coeffs_at, made_at, bytes_known}
use Rattle.still_laws.proofs.Unread.{luma-says}
use Rattle.still_laws.proofs.Walked.{mode-B, luma-known}

-- ---- one macroblock
module _ (luma chroma skip : ℕ) (subs : List ℕ) (n : MbNeighbors) (coeffs : List ℤ) (fits : length coeffs ≡ 400) where
  abbrev answer : MbAnswer
  answer = drawn luma chroma skip subs true n coeffs

  unknown-modes : modes_known luma chroma skip ≡ false → answer.reply ≡ unknown_byte
  unfolding drawn refusal
  unknown-modes e = rw (eq-eqb (length coeffs) 400 fits, e)

  in-16x16 : modes_known luma chroma skip ≡ true → is_b (y_mode luma) ≡ false → answer.reply ≡ done
  unfolding drawn drawn_in modes_of non_b whole_of
  in-16x16 e b = rw (eq-eqb (length coeffs) 400 fits, e, b)

  rest : length (drop 16 coeffs) ≡ 384
  rest = length-drop 16 coeffs ∙ omega arith

  in-B : modes_known luma chroma skip ≡ true → luma ≡ 4 → (t : Bool) → within 9 16 subs ≡ t → answer.reply ≡ pick t done unknown_byte
  unfolding drawn drawn_in drawn_b modes_of walk_b parts_of refusal
  in-B e l true s = rw (eq-eqb (length coeffs) 400 fits, e, l, mode-B, s, eq-eqb (length (drop 16 coeffs)) 384 rest)
  in-B e l false s = rw (eq-eqb (length coeffs) 400 fits, e, l, mode-B, s)

  by_bytes : (m s t : Bool) → modes_known luma chroma skip ≡ m → eqb luma 4 ≡ s → within 9 16 subs ≡ t
      → answer.reply ≡ pick (both m (pick s t true)) done unknown_byte
  by_bytes false s t e l q = unknown-modes e
  by_bytes true true t e l q = in-B e (eqb-true luma 4 l) t q
  by_bytes true false t e l q =
      in-16x16 e
      (⊎_elim (λ r. let z : y_reply luma ≡ 0 = luma-known luma chroma skip subs true n coeffs e in absurd (omega arith)) (λ r. r)
      (luma-says luma (eqb-false luma 4 l)))

-- ---- one turn
chosen : (b : Bool) (x : ℕ) (s t : List ℕ × (List ℕ × List ℕ)) → eqb x done ≡ b → (pick b (done beside s) (x beside t)).0 ≡ x
chosen true x s t e = sym (eqb-true x 0 e)
chosen false x s t e = refl

module _ (w h : ℕ) (modes subs : List ℕ) (coeffs : List ℤ) (right : ℕ → List ℕ → List ℕ) (k : ℕ) (d : Progress) where
  pub made-reply : length (coeffs_at coeffs k) ≡ 400 → (made_at w h modes subs coeffs right k d).reply ≡ pick (bytes_known modes subs k) done unknown_byte
  unfolding made_at made bytes_known
  made-reply l =
      by_bytes (luma_byte modes k) (chroma_byte modes k) (skip_byte modes k) (subs_at subs k)
      (gathered d.y d.u d.v w h (k % w) (k / w) (right (k / w) d.y)).neighbors (coeffs_at coeffs k) l
      (modes_known (luma_byte modes k) (chroma_byte modes k) (skip_byte modes k)) (eqb (luma_byte modes k) 4) (within 9 16 (subs_at subs k)) refl refl refl

  pub turn-reply : d.reply ≡ 0 → (gathered d.y d.u d.v w h (k % w) (k / w) (right (k / w) d.y)).reply ≡ done
      → (turn w h modes subs coeffs right k d).reply ≡ (made_at w h modes subs coeffs right k d).reply
  unfolding turn drawn_at drawn_into made_at
  turn-reply z g =
      rw (eq-eqb d.reply 0 z, eq-eqb (gathered d.y d.u d.v w h (k % w) (k / w) (right (k / w) d.y)).reply 0 g)
      (chosen _ (made_at w h modes subs coeffs right k d).reply _ _ refl)
