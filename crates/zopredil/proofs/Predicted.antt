-- The predictors' answers: what a mode byte says, what is told, and the length of the block. Assumes nothing.
use Prim.Native.Nat.{ℕ}
use mathlib.Core.Bool.{true, false}
use mathlib.Core.Path.{◌≡◌, refl, ap}
use mathlib.Core.List.{List}
use borrow.Author.Tests.{eqb-true}
use lib.Dec.{eqb}
use Rattle.std.specs.Prelude.{Result, Ok, Err}
use Rattle.lists.specs.Lists.{both, ◌beside◌}
use Rattle.lists.proofs.Tests.{right-holds}
use Rattle.macroblock.specs.Reply.{done, number}
use Rattle.macroblock.specs.declared.reply.Refusal.{Refusal}
use Rattle.macroblock.specs.declared.reply.Refusal.TheVariants as refusal
use Rattle.macroblock.specs.declared.modes.IntraBmode.{IntraBmode}
use Rattle.macroblock.specs.declared.modes.IntraBmode.TheVariants as b
use Rattle.macroblock.specs.Modes.{b_mode_at}
use Rattle.macroblock.specs.Says.{b_reply, b_mode}
use Rattle.macroblock.proofs.ModeNumbers.{b-unknown}
use Rattle.drawing.proofs.Bytes.{b-none, b-one}
use Rattle.intra_predict.specs.Luma.{LumaAnswer}
use Rattle.intra_predict.specs.Luma as luma
use Rattle.zopredil.specs.Told.{told}
use Rattle.zopredil.specs.Predictions.{edge_fits, lengths_fit}

-- the block has its length
pub fit-block : (n block above left out : ℕ) → lengths_fit n block above left out ≡ true → out ≡ block
unfolding lengths_fit
fit-block n block above left out e =
    eqb-true out block
    (right-holds (edge_fits n left) (eqb out block) (right-holds (edge_fits n above) (both (edge_fits n left) (eqb out block)) e))

pub luma-says : (r : Result (List ℕ) Refusal) {a : LumaAnswer} → luma.told r ≡ a → told 0 256 r ≡ (a.reply beside a.pixels)
luma-says (Ok pixels) e = ap (λ (a : LumaAnswer). a.reply beside a.pixels) e
luma-says (Err r) e = ap (λ (a : LumaAnswer). a.reply beside a.pixels) e

module _ (byte : ℕ) where
  pub sub-none : (e : Refusal) → ◌≡◌ {A = ℕ × IntraBmode} (number e, b.Dc) (b_mode_at byte) → (e ≡ refusal.UnknownByte) × (eqb (b_reply byte) done ≡ false)
  unfolding b_reply
  sub-none e h = let k = b-none byte e h in (k.0, ap (λ (x : ℕ). eqb x 0) ((b-unknown byte).1 k.1))

  pub sub-one : (m : IntraBmode) → ◌≡◌ {A = ℕ × IntraBmode} (done, m) (b_mode_at byte) → (eqb (b_reply byte) done ≡ true) × (m ≡ b_mode byte)
  unfolding b_reply
  sub-one m h = (rw (← h, b_reply) refl, (b-one byte m h).1)
