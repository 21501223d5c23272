use mathlib.Core.Path.{sym, ◌∙◌}
use native.Mathlib.Omega.{arith}
use native.Mathlib.Nat.{mul-le-mul}
use Rattle.picture_limits.proofs.Accepted.{place-says}
use Rattle.loop_filter.proofs.check.Goals as goal

pub overflow_mul-n : goal.overflow_mul-n
overflow_mul-n c =
    let p = place-says _ _ 0 0 (sym c.place_ok.ensures ∙ c.if-not-place_ok.false) in
    omega (arith, mul-le-mul p.width p.height)
