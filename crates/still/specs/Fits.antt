-- The slices of a picture of w by h macroblocks, each side 1 to 1,024.
use Rattle.std.specs.Prelude.{ℕ, ◌*◌, ◌<◌, ◌≤◌, ◌≡◌}

pub record Fits (w h modes subs coeffs : ℕ) : Type 0 where
  pub some : 0 < w
  pub width : w ≤ 1024
  pub height : h ≤ 1024
  pub modes-fit : modes ≡ 3 * (w * h)
  pub subs-fit : subs ≡ 16 * (w * h)
  pub coeffs-fit : coeffs ≡ 400 * (w * h)
