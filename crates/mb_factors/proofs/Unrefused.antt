-- 9.3 and 9.6: a bitstream's index is from 0 to 127, a segment's own is that or as far again from it, -127 to 254, and a delta is from -15 to 15. With these
-- no sum is refused. Assumes nothing.
use mathlib.Core.Path.{◌≡◌, sym}
use mathlib.Core.Bool.{true}
use native.Mathlib.Omega.{arith}
use lib.IntN.{ℤ, pos, neg_ℤ, ◌+ℤ◌}
use lib.Signed.{le_z, lt_z}
use Rattle.lists.proofs.Tests.{both_true}
use Rattle.whole.proofs.Range.{Small, small-add, small_signed}
use Rattle.quantiser.specs.Factors.{signed32}
use Rattle.mb_factors.specs.Factors.{sums_fit, factors_given, mb_factors}

sum-within : (q d : ℤ) → Small 254 q → Small 15 d → signed32 (q +ℤ d) ≡ true
unfolding signed32
sum-within q d h s =
    let z = q +ℤ d in
    let t = small_signed 269 2147483648 (omega arith) z (small-add 254 15 269 (omega arith) q d h s) in
    sym (both_true (le_z (neg_ℤ (pos 2147483648)) z) (lt_z z (pos 2147483648)) t.0.le t.1.lt)

module _ (q ydc y2dc y2ac uvdc uvac : ℤ) (h : Small 254 q) (i : Small 15 ydc) (j : Small 15 y2dc) (k : Small 15 y2ac) (l : Small 15 uvdc) (m : Small 15 uvac) where
  pub bitstream-sums : sums_fit q ydc y2dc y2ac uvdc uvac ≡ true
  unfolding sums_fit
  bitstream-sums = rw (sum-within q ydc h i, sum-within q y2dc h j, sum-within q y2ac h k, sum-within q uvdc h l, sum-within q uvac h m)

  pub bitstream-given : mb_factors q ydc y2dc y2ac uvdc uvac ≡ factors_given q ydc y2dc y2ac uvdc uvac
  unfolding mb_factors
  bitstream-given = rw bitstream-sums
