-- The six factors, part by part. Assumes nothing.
use mathlib.Core.Path.{◌≡◌, refl}
use Prim.Native.Nat.{◌*◌, ◌/◌, min, max}
use lib.IntN.{ℤ, pos}
use Rattle.rfc6386.specs.MbFactors.{dc_entry, ac_entry, y2_dc_factor, y2_ac_factor, uv_dc_factor}
use Rattle.rfc6386.proofs.MbFactors.{dc-factor-entry, ac-factor-entry}
use Rattle.mb_factors.specs.declared.MbDequantFactors.{MbDequantFactors}
use Rattle.mb_factors.specs.Factors.{factors_at}

pub given_is : (y1dc y1ac y2dc y2ac uvdc uvac a b c d e f : ℤ) → a ≡ pos (dc_entry y1dc) → b ≡ pos (ac_entry y1ac) → c ≡ pos (dc_entry y2dc * 2)
    → d ≡ pos (max (ac_entry y2ac * 155 / 100) 8) → e ≡ pos (min (dc_entry uvdc) 132) → f ≡ pos (ac_entry uvac)
    → ◌≡◌ {A = MbDequantFactors} (record { y1_dc = a; y1_ac = b; y2_dc = c; y2_ac = d; uv_dc = e; uv_ac = f }) (factors_at y1dc y1ac y2dc y2ac uvdc uvac)
unfolding factors_at y2_dc_factor y2_ac_factor uv_dc_factor
given_is y1dc y1ac y2dc y2ac uvdc uvac a b c d e f h i j k l m =
    rw (h, i, j, k, l, m, dc-factor-entry y1dc, ac-factor-entry y1ac, ac-factor-entry uvac) refl
