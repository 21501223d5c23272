-- A test against the ends of signed 32 bits decides whether a number is within; then it fits. What the test of a sum of two 32-bit numbers says.
-- Assumes nothing.
use mathlib.Core.Path.{◌≡◌, refl, sym, ap, subst, ◌∙◌}
use mathlib.Core.Bool.{Bool, true, false}
use native.Mathlib.Omega.{arith}
use lib.Dec.{T, leb, leb→le, ltb→lt}
use lib.IntN.{ℤ, pos, negsuc, ◌+ℤ◌}
use borrow.Author.Tests.{lt-ltb, le-leb}
use mir.Syntax.{w32, w64}
use mir.Val.{to_z, of_z, SFits}
use mir.Facts.{to_z-of_z}
use Rattle.std.specs.Prelude.{Result, Ok, Err}
use Rattle.lists.proofs.Tests.{both-says}
use Rattle.whole.proofs.Held.{R32, twice, add64}
use Rattle.macroblock.specs.Reply.{done}
use Rattle.macroblock.specs.declared.reply.Refusal.{Refusal}
use Rattle.macroblock.specs.declared.reply.Refusal.TheVariants as refusal
use Rattle.rfc6386.specs.Quantiser.{dc_factor, ac_factor}
use Rattle.quantiser.specs.Factors.{signed32, with_delta, Y1Answer, y1_factors, told}

pub signed32-fits : (z : ℤ) → signed32 z ≡ true → SFits w32 z
unfolding signed32
signed32-fits (pos n) e = record { sfits = ltb→lt n 2147483648 (subst T (sym e) tt) }
signed32-fits (negsuc n) e = record { sfits = omega (arith, leb→le n 2147483647 (both-says (leb n 2147483647) true e).0) }

pub fits-signed32 : (z : ℤ) → SFits w32 z → signed32 z ≡ true
unfolding signed32
fits-signed32 (pos n) f = lt-ltb n 2147483648 f.sfits
fits-signed32 (negsuc n) f = rw (le-leb n 2147483647 (omega (arith, f.sfits))) refl

-- ---- the sum of two 32-bit numbers x and y, made of a and b in 64 bits
abbrev R64 : ℤ → ℤ
R64 z = to_z w64 (of_z w64 z)

module _ {x y a b : ℤ} (f : SFits w32 x) (g : SFits w32 y) (p : a ≡ R32 x) (q : b ≡ R32 y) where
  add-sum : SFits w64 (R64 a +ℤ R64 b)
  add-sum = rw (p, q, twice f, twice g) (add64 x y f g)

  pub exact : R64 (R64 a +ℤ R64 b) ≡ x +ℤ y
  exact = to_z-of_z add-sum ∙ rw (p, q, twice f, twice g) refl

  -- what the test of the sum answered is what the sum's place says
  pub tested : (t : Bool) → t ≡ signed32 (R64 (R64 a +ℤ R64 b)) → signed32 (x +ℤ y) ≡ t
  tested t e = ap signed32 (sym exact) ∙ sym e

-- ---- the answer of `from_indices`, by that of `with_delta`
module _ (x y : ℤ) where
  pub y1-refused : (e : Refusal) → ◌≡◌ {A = Result ℤ Refusal} (Err e) (with_delta x y) → told (Err e) ≡ y1_factors x y
  unfolding with_delta y1_factors
  y1-refused e h = by (signed32 (x +ℤ y)) refl
    where
      by : (t : Bool) → signed32 (x +ℤ y) ≡ t → told (Err e) ≡ y1_factors x y
      by true t = absurd (let k = rw t at h in cc)
      by false t = let k = rw t at h in rw t (let i : e ≡ refusal.IndexSum = cc in rw i refl)

  pub y1-given : (z d a : ℤ) → ◌≡◌ {A = Result ℤ Refusal} (Ok z) (with_delta x y) → d ≡ dc_factor z → a ≡ ac_factor x
      → ◌≡◌ {A = Y1Answer} (record { reply = done; dc = d; ac = a }) (y1_factors x y)
  unfolding with_delta y1_factors
  y1-given z d a h k l = by (signed32 (x +ℤ y)) refl
    where
      by : (t : Bool) → signed32 (x +ℤ y) ≡ t → ◌≡◌ {A = Y1Answer} (record { reply = done; dc = d; ac = a }) (y1_factors x y)
      by true t = let e = rw t at h in let i : z ≡ x +ℤ y = cc in rw (t, k, l, i) refl
      by false t = absurd (let e = rw t at h in cc)
