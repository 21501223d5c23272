-- TM in numbers that are never negative: the difference that stops at 0 is the clamp's lower end. Assumes nothing.
use mathlib.Core.Path.{◌≡◌}
use Prim.Native.Nat.{ℕ, zero, suc, ◌+◌, ◌-◌, ◌<◌, min}
use native.Mathlib.Nat.{sub-zero, add-zero}
use native.Mathlib.Decide.{dec_lt}
use native.Mathlib.Omega.{arith}
use borrow.Author.Tests.{lt-ltb, le-ltb}
use lib.IntN.{sub_ℕ}
use Rattle.whole.specs.Whole.{clamp_to}
use Rattle.rfc6386.specs.Edges.{tm}

by_order : (s p : ℕ) → Dec (s < p) → clamp_to 255 (sub_ℕ s p) ≡ min 255 (s - p)
unfolding clamp_to
by_order s p (yes l) = rw (lt-ltb s p l) (omega arith)
by_order s p (no l) = rw (le-ltb s p (omega arith)) (omega arith)

pub tm-least : (l a p : ℕ) → tm l a p ≡ min 255 (l + a - p)
unfolding tm clamp_to
tm-least l a zero = rw (sub-zero, add-zero) (omega arith)
tm-least l a (suc p) = by_order (l + a) (suc p) (dec_lt (l + a) (suc p))
