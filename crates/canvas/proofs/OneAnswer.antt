-- The promise of `canvas` admits one answer only, and leaves one thing only in each plane. Assumes nothing.
use mathlib.Core.Path.{◌≡◌, sym, ap, ◌∙◌}
use mathlib.Core.List.{List}
use Prim.Native.Nat.{ℕ}
use native.Mathlib.Omega.{arith}
use Rattle.std.specs.Prelude.{Result, Ok, Err}
use Rattle.lists.specs.Lists.{◌beside◌}
use Rattle.lists.proofs.Answer.{OneAnswerIn}
use Rattle.macroblock.specs.Reply.{done, number}
use Rattle.macroblock.specs.declared.reply.Refusal.{Refusal}
use Rattle.macroblock.proofs.Refusals.{number-one, number-more}
use Rattle.canvas.specs.Into.{told}
use Rattle.canvas.proofs.draw_macroblock.Reads as draw-macroblock
use Rattle.canvas.proofs.draw_macroblock.Kinds as draw-macroblock-k

abbrev Told : Type 0
Told = (ℕ × (List ℕ × (List ℕ × List ℕ))) × ℕ

abbrev reply-in : Told → ℕ
reply-in t = t.0.0

abbrev planes-in : Told → List ℕ × (List ℕ × List ℕ)
planes-in t = t.0.1

module _ (a b c d e f : List ℕ) where
  -- what is told of an answer tells it, and the planes
  one : (x y : Result ℕ Refusal) → told x a b c ≡ told y d e f → (x ≡ y) × ((a beside b beside c) ≡ (d beside e beside f))
  one (Ok m) (Ok n) k = (ap (λ (t : Told). Ok t.1) k, ap planes-in k)
  one (Ok m) (Err s) k = let n = number-more s in let q : done ≡ number s = ap reply-in k in absurd (omega (arith, n, q))
  one (Err r) (Ok m) k = let n = number-more r in let q : number r ≡ done = ap reply-in k in absurd (omega (arith, n, q))
  one (Err r) (Err s) k = (ap (λ (t : Refusal). Err t) (number-one r s (ap reply-in k)), ap planes-in k)

pub draw-macroblock-one : OneAnswerIn 4 draw-macroblock-k.ps draw-macroblock-k.r draw-macroblock.Post {A = List ℕ × (List ℕ × List ℕ)}
    (λ κs s. (s.1.1.1.1.1.1.1.1.1.1.0.now, (s.1.1.1.1.1.1.1.1.1.1.1.0.now, s.1.1.1.1.1.1.1.1.1.1.1.1.0.now)))
draw-macroblock-one κs a x y s t p q = one _ _ _ _ _ _ x y (p ∙ sym q)
