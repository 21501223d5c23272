-- A macroblock that lies in its plane: the bounds that its edges keep to, over the side n; and that a macroblock of an accepted picture lies in
-- each plane.
-- Assumes nothing.
use Prim.Native.Nat.{ℕ, suc, ◌+◌, ◌-◌, ◌*◌, ◌<◌, ◌≤◌}
use mathlib.Core.Path.{◌≡◌, sym, ap, ◌∙◌}
use mathlib.Core.List.{List}
use native.Mathlib.Nat.{
  mul-le-mul_left,
  mul-le-mul_right,
  mul-le-mul,
  mul-suc,
  suc-mul,
  mul-one,
  one-mul,
  add-mul,
  mul_assoc,
  mul_comm,
  mul_left_comm,
}
use native.Mathlib.Omega.{arith}
use lib.ListN.{length}
use Rattle.picture_limits.specs.Place.{Placed}

pub record Bounds (n : ℕ) (l : List ℕ) (w c r : ℕ) : Type 0 where
  pub column : n * c + n ≤ n * w
  pub rows : n * r * (n * w) + n * (n * w) ≤ length l
  pub row : n * r ≤ n * r * (n * w)
  pub one : n * w ≤ n * (n * w)

-- a row of pixels stands before the macroblock
pub record Above (n : ℕ) (l : List ℕ) (w c r : ℕ) : Type 0 where
  pub bounds : Bounds n l w c r
  pub up : 1 ≤ n * r
  pub row : (n * r - 1) * (n * w) + n * w ≡ n * r * (n * w)

-- a column of pixels stands before it
pub record Left (n : ℕ) (l : List ℕ) (w c r : ℕ) : Type 0 where
  pub bounds : Bounds n l w c r
  pub side : 1 ≤ n * c

module _ {n : ℕ} {l : List ℕ} {w c r : ℕ} (p : Placed n l w c r) where
  pub bounds : Bounds n l w c r
  bounds =
      let s : 1 ≤ n = p.some in
      let a : n * c + n ≤ n * w = rw (← mul-suc) (mul-le-mul_left n p.across) in
      let z : 1 ≤ n * w = omega arith in
      let b : n * r * (n * w) + n * (n * w) ≤ length l = rw (← add-mul) p.down in
      let d : n * r * 1 ≤ n * r * (n * w) = mul-le-mul_left (n * r) z in
      let e : 1 * (n * w) ≤ n * (n * w) = mul-le-mul_right (n * w) s in
      record { column = a; rows = b; row = omega (arith, mul-one (n * r)); one = omega (arith, one-mul (n * w)) }

  pub above : 0 < r → Above n l w c r
  above h =
      let m : 1 * 1 ≤ n * r = mul-le-mul p.some h in
      let e : suc (n * r - 1) ≡ n * r = omega arith in
      record { bounds = bounds; up = omega arith; row = rw (← suc-mul, e) }

  pub left : 0 < c → Left n l w c r
  left h = let m : 1 * 1 ≤ n * c = mul-le-mul p.some h in record { bounds = bounds; side = omega arith }

-- n rows a macroblock, n n w h pixels in all
pub placed : (n : ℕ) (l : List ℕ) (w h c r : ℕ) → 1 ≤ n → c < w → r < h → length l ≡ n * n * (w * h) → Placed n l w c r
placed n l w h c r s a d e =
    let k : n * suc r ≤ n * h = mul-le-mul_left n d in
    let m : n * w * (n * suc r) ≤ n * w * (n * h) = mul-le-mul_left (n * w) k in
    let f : n * w * (n * h) ≡ n * n * (w * h) = mul_assoc n w (n * h) ∙ ap (λ (t : ℕ). n * t) (mul_left_comm w n h) ∙ sym (mul_assoc n n (w * h)) in
    let g : (n * r + n) * (n * w) ≡ n * w * (n * suc r) = mul_comm (n * r + n) (n * w) ∙ ap (λ (t : ℕ). n * w * t) (sym (mul-suc n r)) in
    record { some = s; across = a; down = rw (g, e, ← f) m }
