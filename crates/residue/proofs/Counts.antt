-- What `inverse_dct_4x4_add_into` counts: at most 16, nothing for a refused block, and without AC coefficients what the first coefficient alone counts.
-- Assumes nothing.
use mathlib.Core.Bool.{Bool, true, false}
use mathlib.Core.List.{List}
use mathlib.Core.Path.{◌≡◌, ◌∙◌}
use Prim.Native.Nat.{ℕ, ◌+◌, ◌*◌, ◌<◌, ◌≤◌}
use lib.Dec.{lit≤}
use lib.IntN.{ℤ, pos}
use lib.ListN.{length}
use mir.Syntax.{w16}
use mir.Val.{SFits}
use Rattle.lists.specs.Lists.{pick}
use Rattle.rfc6386.specs.Dct.{entry, idct, idct_dc}
use Rattle.rfc6386.specs.Residue.{lies}
use Rattle.clipping.specs.Clipped.{clipped_at}
use Rattle.clipping.proofs.Blocks.{ac-free-at}
use Rattle.clipping.proofs.Bounds.{at-≤}
use Rattle.residue.specs.Answer.{add_clipped}

module _ (s r c : ℕ) (input : List ℤ) (l : List ℕ) where
  abbrev at : ℕ
  at = 4 * r * s + 4 * c

  pub count-≤ : add_clipped input s r c l ≤ 16
  unfolding add_clipped
  count-≤ = by (lies (length l) s r c)
    where
      by : (b : Bool) → pick b (clipped_at at s (idct input) l) 0 ≤ 16
      by true = at-≤ at s (idct input) l
      by false = lit≤ tt

  pub refused-counts-none : lies (length l) s r c ≡ false → add_clipped input s r c l ≡ 0
  unfolding add_clipped
  refused-counts-none e = rw e

  module _ (in-plane : lies (length l) s r c ≡ true) where
    pub counted : add_clipped input s r c l ≡ clipped_at at s (idct input) l
    unfolding add_clipped
    counted = rw in-plane

    pub dc-only-count-is-full : ((k : ℕ) → k < 15 → entry input (k + 1) ≡ pos 0) → SFits w16 (entry input 0)
        → add_clipped input s r c l ≡ clipped_at at s (idct_dc (entry input 0)) l
    dc-only-count-is-full z f = counted ∙ ac-free-at l input z f at s
