-- The two calls, one after the other. Assumes nothing.
use Prim.Native.Nat.{ℕ}
use mathlib.Core.Path.{◌≡◌, refl}
use mathlib.Core.List.{List}
use Rattle.std.specs.Prelude.{Ok, Err}
use Rattle.macroblock.proofs.Refusals.{number-not-done}
use Rattle.still.specs.declared.StillRefusal.{StillRefusal}
use Rattle.still.specs.Picture.{Progress, progress}
use Rattle.still.specs.Answers.{told}
use Rattle.loop_filter.specs.Answers.{Answer, levels_answer}
use Rattle.filtered_still.specs.Answers.{then_filtered}

module _ (cols rows kind sharp : ℕ) (levels inner : List ℕ) (t : Progress × ℕ) (y u v : List ℕ) where
  pub refused-is : (r : StillRefusal) → told (Err r) y u v ≡ t → told (Err r) y u v ≡ then_filtered cols rows kind sharp levels inner t
  unfolding then_filtered
  refused-is r e = rw (← e, number-not-done r.refusal) refl

  pub done-is : (clipped n : ℕ) (a b c : List ℕ) → told (Ok clipped) y u v ≡ t
      → ◌≡◌ {A = Answer} (n, a, b, c) (levels_answer cols rows kind sharp levels inner y u v)
      → ◌≡◌ {A = Progress × ℕ} (progress n 0 a b c, clipped) (then_filtered cols rows kind sharp levels inner t)
  unfolding then_filtered
  done-is clipped n a b c e f = rw (← e, ← f) refl
