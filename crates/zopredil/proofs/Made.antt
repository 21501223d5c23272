-- What is told of a call, from what the crate below tells. Assumes nothing.
use Prim.Native.Nat.{ℕ}
use mathlib.Core.Path.{◌≡◌, refl, ap, ◌∙◌}
use mathlib.Core.List.{List, [], ◌∷◌}
use lib.IntN.{ℤ}
use lib.ListN.{length}
use Rattle.lists.specs.Lists.{◌beside◌}
use Rattle.rfc6386.specs.Quantiser.{dequantised}
use Rattle.mb_factors.specs.Factors.{FactorsAnswer}
use Rattle.residue.specs.Answer.{add_reply, added_into, add_clipped, added_reply}
use Rattle.zopredil.specs.Transforms.{six_made, factor_list, counted}

pub dequant-made : {out l block : List ℤ} {x y dc ac : ℤ}
    → out ≡ dequantised l x y → l ≡ block → x ≡ dc → y ≡ ac → out ≡ dequantised block dc ac
dequant-made e p q r = rw (← p, ← q, ← r) e

-- the six factors: the answer, the coefficients and the factors as the slices hold them
pub six-beside : {reply : ℕ} {coeffs factors : List ℤ} (made : ℕ × List ℤ) (a : FactorsAnswer × List ℤ)
    → (reply beside factors) ≡ made → (made beside coeffs) ≡ six_made a → (reply beside coeffs beside factors) ≡ (a.0.reply beside a.1 beside factor_list a.0)
six-beside {coeffs} made a e h =
    ap (λ (m : ℕ × List ℤ). m.0 beside coeffs beside m.1) e ∙ ap (λ (m : (ℕ × List ℤ) × List ℤ). m.0.0 beside m.1 beside m.0.1) h

-- a block's inverse DCT
pub added-beside : {reply : ℕ} {plane clipped : List ℕ} (made : ℕ × List ℕ) (l : List ℤ) (stride row col : ℕ) (before : List ℕ)
    → (reply beside clipped) ≡ made → made ≡ counted (added_reply l stride row col before) → plane ≡ added_into l stride row col before
    → (reply beside plane beside clipped)
    ≡ (add_reply (length before) stride row col beside added_into l stride row col before beside add_clipped l stride row col before ∷ [])
unfolding added_reply
added-beside {plane} made l stride row col before e h p =
    ap (λ (m : ℕ × List ℕ). m.0 beside plane beside m.1) (e ∙ h) ∙ rw p refl

-- six factors that are held in 16 bits
pub six-held : (k : ℕ) (coeffs : List ℤ) (u v w x y z : ℤ) {a b c d e f : ℤ} → a ≡ u → b ≡ v → c ≡ w → d ≡ x → e ≡ y → f ≡ z
    → ((k beside a ∷ b ∷ c ∷ d ∷ e ∷ f ∷ []) beside coeffs) ≡ ((k beside u ∷ v ∷ w ∷ x ∷ y ∷ z ∷ []) beside coeffs)
six-held k coeffs u v w x y z g h i j l m = rw (g, h, i, j, l, m) refl
