-- `inverse_dct_4x4_add_into` answers 0 exactly by the rule in whole numbers without bound, and 2 otherwise. Assumes nothing.
use mathlib.Core.Bool.{Bool, true, false}
use mathlib.Core.Logic.{◌↔◌}
use mathlib.Core.Path.{◌≡◌, refl, sym}
use Prim.Native.Nat.{ℕ, ◌+◌, ◌*◌, ◌≤◌}
use native.Mathlib.Omega.{arith}
use Rattle.lists.specs.Lists.{pick}
use Rattle.macroblock.specs.Reply.{done, outside_plane}
use Rattle.rfc6386.specs.Residue.{lies}
use Rattle.residue.specs.Answer.{add_reply}
use Rattle.residue.proofs.Geometry.{accepted, lies_says}

reply-done : (b : Bool) → pick b done outside_plane ≡ done → b ≡ true
reply-done true e = refl
reply-done false e = absurd (never e)
  where
    never : ◌≡◌ {A = ℕ} 2 0 → ⊥
    never e = omega arith

pub accepted-exactly : (n s r c : ℕ) → (add_reply n s r c ≡ done) ↔ ((4 * c + 4 ≤ s) × ((4 * r + 3) * s + 4 * c + 4 ≤ n))
unfolding add_reply
accepted-exactly n s r c = (
  λ e. lies_says n s r c (reply-done (lies n s r c) e),
  λ h. rw (sym (accepted n s r c h.0 h.1)),
)

-- stride 16, row 3, column 3: 256 bytes pass, 255 do not, and neither does stride 15
pub last-block-of-16 : (add_reply 256 16 3 3 ≡ done) × (add_reply 255 16 3 3 ≡ outside_plane) × (add_reply 256 15 3 3 ≡ outside_plane)
unfolding add_reply lies
last-block-of-16 = (refl, refl, refl)
