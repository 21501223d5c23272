-- Nothing is counted where the coefficients are skipped. Assumes nothing.
use mathlib.Core.Bool.{true}
use mathlib.Core.List.{List}
use mathlib.Core.Path.{◌≡◌, refl}
use Prim.Native.Nat.{ℕ, ◌+◌}
use native.Mathlib.Omega.{arith}
use lib.IntN.{ℤ}
use Rattle.macroblock.specs.declared.modes.IntraYMode.{IntraYMode}
use Rattle.macroblock.specs.declared.modes.IntraUvMode.{IntraUvMode}
use Rattle.macroblock.specs.declared.modes.IntraBmode.{IntraBmode}
use Rattle.macroblock.specs.declared.neighbors.MbNeighbors.{MbNeighbors}
use Rattle.rfc6386.specs.Walk.{start_of}
use Rattle.clipping.specs.Clipped.{plane_clipped, y_whole_clipped, uv_clipped, sub_clipped, walked_clipped, y_parts_clipped}
use Rattle.lists.proofs.Total.{total-none}

pub plane-skipped : (n : ℕ) (p : List ℕ) (x : ℕ → ℕ → ℤ) → plane_clipped n true p x ≡ 0
unfolding plane_clipped
plane-skipped n p x = refl

pub walked-skipped : (n : ℕ) (modes : List IntraBmode) (coeffs : List ℤ) (b : List ℕ) → walked_clipped n modes true coeffs b ≡ 0
unfolding walked_clipped sub_clipped
walked-skipped n modes coeffs b = total-none n

-- a macroblock, in a 16x16 mode and in mode B
module _ (uv : IntraUvMode) (n : MbNeighbors) (coeffs : List ℤ) (u v : ℕ) where
  pub macroblock-skipped : (mode : IntraYMode) → y_whole_clipped mode true n.y coeffs + uv_clipped uv true n.u coeffs u + uv_clipped uv true n.v coeffs v ≡ 0
  unfolding y_whole_clipped uv_clipped plane_clipped
  macroblock-skipped mode = refl

  pub macroblock-B-skipped : (modes : List IntraBmode) → y_parts_clipped modes true n.y coeffs + uv_clipped uv true n.u coeffs u + uv_clipped uv true n.v coeffs v ≡ 0
  unfolding y_parts_clipped uv_clipped plane_clipped
  macroblock-B-skipped modes = omega (arith, walked-skipped 16 modes coeffs (start_of n.y))
