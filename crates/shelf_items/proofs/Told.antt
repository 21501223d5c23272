-- The answer of a shelf of bytes, from the beginning and what the turns left. Assumes nothing.
use Prim.Native.Nat.{ℕ, ◌*◌}
use mathlib.Core.Path.{◌≡◌, refl}
use mathlib.Core.Bool.{true, false}
use mathlib.Core.List.{List}
use lib.Dec.{eqb}
use lib.IntN.{ℤ}
use lib.ListN.{length}
use Rattle.lists.specs.Lists.{◌beside◌}
use Rattle.std.specs.Prelude.{Err}
use Rattle.macroblock.specs.Reply.{done, number}
use Rattle.macroblock.specs.declared.reply.Refusal.{Refusal}
use Rattle.shelf_items.specs.Shelf.{lengths_fit, bytes_at, bytes_answer}
use Rattle.shelf_items.specs.Steps.{told, planned, begun}
use Rattle.shelf_items.proofs.Turns.{out_after, replies_after, count_after}
use Rattle.shelf_items.proofs.Answered.{answered, not_begun}
use Rattle.shelf_items.proofs.Items.{bytes-shape}

module _ (modes records subs : List ℕ) (coeffs : List ℤ) (out replies clipped : List ℕ) where
  pub no-modes : eqb (length modes) (3 * length replies) ≡ false
      → (1 beside out beside replies beside clipped) ≡ bytes_answer modes records subs coeffs out replies clipped
  unfolding bytes_answer
  no-modes e = rw e refl

  pub no-records : eqb (length modes) (3 * length replies) ≡ true → eqb (length records) (81 * length replies) ≡ false
      → (1 beside out beside replies beside clipped) ≡ bytes_answer modes records subs coeffs out replies clipped
  unfolding bytes_answer
  no-records e f = rw (e, f) refl

  pub bytes-told : eqb (length modes) (3 * length replies) ≡ true → eqb (length records) (81 * length replies) ≡ true → {o r c start : List ℕ}
      → lengths_fit (length replies) (length subs) (length coeffs) (length out) (length replies) (length clipped) ≡ true
      → o ≡ out_after (bytes_at modes records subs coeffs) (length replies) out
      → r ≡ replies_after (bytes_at modes records subs coeffs) (length replies) replies
      → start ≡ begun (length replies) (length subs) (length coeffs) (length out) (length replies) clipped
      → c ≡ count_after (bytes_at modes records subs coeffs) (length replies) start
      → (done beside o beside r beside c) ≡ bytes_answer modes records subs coeffs out replies clipped
  unfolding bytes_answer
  bytes-told em ef fit eo er es ec =
      rw (em, ef)
      (answered (bytes_at modes records subs coeffs) (bytes-shape modes records subs coeffs) (length replies) (length subs) (length coeffs) out replies clipped fit eo er es ec)

  pub bytes-refused : eqb (length modes) (3 * length replies) ≡ true → eqb (length records) (81 * length replies) ≡ true → {c : List ℕ} (e : Refusal)
      → told (length replies) (Err e) ≡ planned (length replies) (length subs) (length coeffs) (length out) (length replies) (length clipped)
      → c ≡ begun (length replies) (length subs) (length coeffs) (length out) (length replies) clipped
      → (number e beside out beside replies beside c) ≡ bytes_answer modes records subs coeffs out replies clipped
  unfolding bytes_answer
  bytes-refused em ef e h es =
      rw (em, ef)
      (not_begun (bytes_at modes records subs coeffs) (bytes-shape modes records subs coeffs) (length replies) (length subs) (length coeffs) out replies clipped e h es)
