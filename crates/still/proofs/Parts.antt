-- The parts of the slices that a macroblock takes, and the right-hand pixels where they are read. Assumes nothing.
use Prim.Native.Nat.{ℕ, ◌+◌, ◌-◌, ◌*◌, ◌/◌, ◌%◌, ◌≤◌}
use mathlib.Core.Path.{◌≡◌, ap}
use mathlib.Core.List.{List}
use lib.IntN.{ℤ}
use lib.ListN.{length, get_or, take, drop, replicate}
use Rattle.slices.specs.Copies.{or_zeros}
use Rattle.slices.proofs.Parts.{part-is, part-whole}
use Rattle.canvas.specs.Into.{told_into}
use Rattle.std.specs.Prelude.{Result, Ok, Err}
use Rattle.std.specs.Result.{result_unwrap_or}
use Rattle.macroblock.specs.declared.reply.Refusal.{Refusal}
use Rattle.right_pixels.specs.Answers.{RightPixels, told}
use Rattle.still.specs.Picture.{drawn_at, count_at, told_at}

pub at_place : (w h : ℕ) (modes subs : List ℕ) (coeffs : List ℤ) (right : List ℕ) (k : ℕ) (y u v s : List ℕ)
    (z : (ℕ × (List ℕ × (List ℕ × List ℕ))) × ℕ) → 16 * k + 16 ≤ length subs → s ≡ or_zeros 0 16 (take (16 * k + 16 - 16 * k) (drop (16 * k) subs))
    → z
    ≡ told_into w h (k % w) (k / w) (get_or modes (3 * k) 0) (get_or modes (3 * k + 1) 0) (get_or modes (3 * k + 2) 0) s right
    (take (400 * k + 400 - 400 * k) (drop (400 * k) coeffs)) y u v
    → z ≡ told_at w h modes subs coeffs (λ r y. right) k y u v
unfolding drawn_at count_at
at_place w h modes subs coeffs right k y u v s z f e d =
    rw (← part-whole 0 16 (16 * k) subs f, ← e, ← part-is 400 (400 * k) coeffs) d

pub pixels-or : (r : Result (List ℕ) Refusal) {p : RightPixels} → told r ≡ p → result_unwrap_or r (replicate 4 0) ≡ p.pixels
pixels-or (Ok a) e = ap (λ (p : RightPixels). p.pixels) e
pixels-or (Err r) e = ap (λ (p : RightPixels). p.pixels) e
