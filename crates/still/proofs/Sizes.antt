-- A picture's size, and the lengths that go with it. Assumes nothing.
use Prim.Native.Nat.{ℕ, ◌*◌, ◌/◌, ◌<◌, ◌≤◌}
use mathlib.Core.Bool.{true}
use mathlib.Core.Path.{◌≡◌}
use native.Mathlib.Nat.{mul-le-mul, mul_comm, div-lt_iff_lt-mul}
use borrow.Author.Tests.{eqb-true}
use lib.Dec.{eqb}
use Rattle.lists.specs.Lists.{both}
use Rattle.lists.proofs.Tests.{left-holds, right-holds}
use Rattle.rfc6386.specs.Picture.{sizes_ok, size_ok}
use Rattle.picture_limits.proofs.Accepted.{Within, place-says}
use Rattle.still.specs.Answers.{lengths_ok}
use Rattle.still.specs.Fits.{Fits}

pub size-says : (w h : ℕ) → size_ok w h ≡ true → Within w h 0 0
unfolding size_ok
size-says w h e = place-says w h 0 0 e

-- at most 2^20 macroblocks
pub at_most : {w h : ℕ} → w ≤ 1024 → h ≤ 1024 → w * h ≤ 1048576
at_most a b = mul-le-mul a b

-- the row of a macroblock
pub row_within : (k w h : ℕ) → 0 < w → k < w * h → k / w < h
row_within k w h p q = (div-lt_iff_lt-mul p).1 (rw (mul_comm h w) q)

pub fits : (w h modes subs coeffs y u v : ℕ) → size_ok w h ≡ true → lengths_ok w h modes subs coeffs y u v ≡ true → Fits w h modes subs coeffs
unfolding lengths_ok
fits w h modes subs coeffs y u v s l =
    let p = size-says w h s in
    let n = w * h in
    let one = right-holds (eqb modes (3 * n)) (both (eqb subs (16 * n)) (both (eqb coeffs (400 * n)) (sizes_ok y u v w h))) l in
    let two = right-holds (eqb subs (16 * n)) (both (eqb coeffs (400 * n)) (sizes_ok y u v w h)) one in
    record {
      some = p.column;
      width = p.width;
      height = p.height;
      modes-fit = eqb-true modes (3 * n) (left-holds (eqb modes (3 * n)) (both (eqb subs (16 * n)) (both (eqb coeffs (400 * n)) (sizes_ok y u v w h))) l);
      subs-fit = eqb-true subs (16 * n) (left-holds (eqb subs (16 * n)) (both (eqb coeffs (400 * n)) (sizes_ok y u v w h)) one);
      coeffs-fit = eqb-true coeffs (400 * n) (left-holds (eqb coeffs (400 * n)) (sizes_ok y u v w h) two);
    }
