-- largest n f: the largest of f 0 .. f (n - 1), and 0 of none.
use Rattle.std.specs.Prelude.{ℕ, zero, suc, max}

unfoldable pub largest : ℕ → (ℕ → ℕ) → ℕ
largest zero f = 0
largest (suc n) f = max (largest n f) (f n)
