use Prim.Native.Nat.{ℕ, zero, suc, ◌≤◌}
use mathlib.Core.Path.{◌≡◌, sym, subst, ap, ◌∙◌}
use native.Mathlib.Omega.{arith}
use lib.IntN.{ℤ, pos, neg_ℤ, ◌-ℤ◌, +ℤ_idl}
use mir.Syntax.{w16}
use mir.Val.{SFits, to_z}
use mir.Facts.{to_z-of_z, to_z_pos}
use Rattle.tokens.specs.Tokens.{signed_of}
use Rattle.tokens.proofs.block.signed.Goals as goal

fits-minus : (n : ℕ) → n ≤ 2114 → SFits w16 (neg_ℤ (pos n))
fits-minus zero h = record { sfits = omega arith }
fits-minus (suc n) h = record { sfits = omega arith }

module _ (n : ℕ) (h : n ≤ 2114) where
  bits_are : to_z w16 n ≡ pos n
  bits_are = to_z_pos w16 (omega arith)

  minus_is : pos 0 -ℤ to_z w16 n ≡ neg_ℤ (pos n)
  minus_is = ap (λ (z : ℤ). pos 0 -ℤ z) bits_are ∙ +ℤ_idl (neg_ℤ (pos n))

  fits : SFits w16 (pos 0 -ℤ to_z w16 n)
  fits = subst (SFits w16) (sym minus_is) (fits-minus n h)

pub returns-then-minus : goal.returns-then-minus
unfolding signed_of
returns-then-minus c = rw c.if-minus.true (to_z-of_z (fits c.args.size c.requires) ∙ minus_is c.args.size c.requires)

pub returns-else-minus : goal.returns-else-minus
unfolding signed_of
returns-else-minus c = rw c.if-minus.false (bits_are c.args.size c.requires)

pub overflow_sub-result : goal.overflow_sub-result
overflow_sub-result c = fits c.args.size c.requires
