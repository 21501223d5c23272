-- Each promise of `partition` admits one answer only, and leaves one thing only in what was lent. Assumes nothing.
use mathlib.Core.Path.{◌≡◌, refl, sym, ap, ◌∙◌}
use mathlib.Core.List.{List}
use Prim.Native.Nat.{ℕ}
use lib.IntN.{ℤ}
use Rattle.std.specs.Prelude.{Result}
use Rattle.lists.proofs.Answer.{OneAnswerIn}
use Rattle.macroblock.specs.Reply.{reply_of}
use Rattle.macroblock.specs.declared.reply.Refusal.{Refusal}
use Rattle.macroblock.proofs.Refusals.{one_answer}
use Rattle.partition.proofs.bool_start.Reads as bool-start
use Rattle.partition.proofs.bool_start.Kinds as bool-start-k
use Rattle.partition.proofs.tokens.Reads as tokens
use Rattle.partition.proofs.tokens.Kinds as tokens-k

once : (x y : Result (Unit {0}) Refusal) → reply_of x ≡ reply_of y → x ≡ y
once x y h = one_answer reply_of (λ (n : ℕ). n) (λ (n : ℕ). tt {0}) (λ a. refl) (λ a. refl) (λ e. refl) x y h

pub bool-start-one : OneAnswerIn 2 bool-start-k.ps bool-start-k.r bool-start.Post (λ κs s. s.1.0.now)
bool-start-one κs a x y s t p q =
    let e = p ∙ sym q in
    (once x y (ap (λ (w : ℕ × List ℕ). w.0) e), ap (λ (w : ℕ × List ℕ). w.1) e)

pub tokens-one : OneAnswerIn 6 tokens-k.ps tokens-k.r tokens.Post {A = List ℕ × List ℕ × List ℕ × List ℤ}
    (λ κs s. (s.1.1.1.0.now, s.1.1.1.1.0.now, s.1.1.1.1.1.0.now, s.1.1.1.1.1.1.0.now))
tokens-one κs a x y s t p q =
    let e = p ∙ sym q in (
      once x y (ap (λ (w : ℕ × List ℕ × List ℕ × List ℕ × List ℤ). w.0) e),
      ap (λ (w : ℕ × List ℕ × List ℕ × List ℕ × List ℤ). (w.1, w.2, w.3, w.4)) e,
    )
