-- The numbers of the modes and what a byte says of them.
--     at-known, at-unknown      a byte that is a place of the list of modes, and one that is past it
--     y-unknown, ..             8 is the reply exactly above 4, 3 and 9
--     y-of-number, ..           the number of a mode says that mode
--     y-number-of, ..           a byte from 0 to 4, 3 and 9 is the number of the mode that it says
-- Assumes nothing.
use mathlib.Core.Path.{◌≡◌, refl, ap}
use mathlib.Core.Logic.{◌↔◌}
use mathlib.Core.List.{List, ◌∷◌}
use Prim.Native.Nat.{ℕ, ◌≤◌, ◌<◌}
use native.Mathlib.Decide.{dec_lt}
use native.Mathlib.Omega.{arith}
use borrow.Author.Tests.{le-ltb, lt-ltb}
use lib.ListN.{length, get_or}
use Rattle.lists.specs.Lists.{table}
use Rattle.lists.proofs.Table.{table-agree}
use Rattle.macroblock.specs.Reply.{done, unknown_byte}
use Rattle.macroblock.specs.declared.modes.IntraYMode.{IntraYMode}
use Rattle.macroblock.specs.declared.modes.IntraYMode.TheVariants as y
use Rattle.macroblock.specs.declared.modes.IntraUvMode.{IntraUvMode}
use Rattle.macroblock.specs.declared.modes.IntraUvMode.TheVariants as uv
use Rattle.macroblock.specs.declared.modes.IntraBmode.{IntraBmode}
use Rattle.macroblock.specs.declared.modes.IntraBmode.TheVariants as b
use Rattle.macroblock.specs.Modes.{y_number, uv_number, b_number, mode_at, y_mode_at, uv_mode_at, b_mode_at}

-- ---- a list of modes
module _ {A : Type 0} (first : A) (others : List A) where
  pub at-known : (byte : ℕ) → byte < length (first ∷ others) → mode_at first others byte ≡ (done, get_or (first ∷ others) byte first)
  unfolding mode_at
  at-known byte h = rw (lt-ltb byte (length (first ∷ others)) h)

  pub at-unknown : (byte : ℕ) → length (first ∷ others) ≤ byte → mode_at first others byte ≡ (unknown_byte, first)
  unfolding mode_at
  at-unknown byte h = rw (le-ltb byte (length (first ∷ others)) h)

  pub unknown-exactly : (byte : ℕ) → ((mode_at first others byte).0 ≡ unknown_byte) ↔ (length (first ∷ others) ≤ byte)
  unknown-exactly byte = (λ e. by e (dec_lt byte (length (first ∷ others))), λ h. ap (λ (x : ℕ × A). x.0) (at-unknown byte h))
    where
      by : (mode_at first others byte).0 ≡ unknown_byte → Dec (byte < length (first ∷ others)) → length (first ∷ others) ≤ byte
      by e (yes h) = let k = ap (λ (x : ℕ × A). x.0) (at-known byte h) in omega arith
      by e (no h) = omega arith

-- ---- 8 exactly above 4, 3 and 9
pub y-unknown : (byte : ℕ) → ((y_mode_at byte).0 ≡ unknown_byte) ↔ (4 < byte)
unfolding y_mode_at
y-unknown byte = unknown-exactly _ _ byte

pub uv-unknown : (byte : ℕ) → ((uv_mode_at byte).0 ≡ unknown_byte) ↔ (3 < byte)
unfolding uv_mode_at
uv-unknown byte = unknown-exactly _ _ byte

pub b-unknown : (byte : ℕ) → ((b_mode_at byte).0 ≡ unknown_byte) ↔ (9 < byte)
unfolding b_mode_at
b-unknown byte = unknown-exactly _ _ byte

-- ---- the number of a mode says that mode
pub y-of-number : (mode : IntraYMode) → y_mode_at (y_number mode) ≡ (done, mode)
unfolding y_mode_at mode_at
y-of-number y.Dc = refl
y-of-number y.«V» = refl
y-of-number y.H = refl
y-of-number y.Tm = refl
y-of-number y.B = refl

pub uv-of-number : (mode : IntraUvMode) → uv_mode_at (uv_number mode) ≡ (done, mode)
unfolding uv_mode_at mode_at
uv-of-number uv.Dc = refl
uv-of-number uv.«V» = refl
uv-of-number uv.H = refl
uv-of-number uv.Tm = refl

pub b-of-number : (mode : IntraBmode) → b_mode_at (b_number mode) ≡ (done, mode)
unfolding b_mode_at mode_at
b-of-number b.Dc = refl
b-of-number b.Tm = refl
b-of-number b.Ve = refl
b-of-number b.He = refl
b-of-number b.Ld = refl
b-of-number b.Rd = refl
b-of-number b.Vr = refl
b-of-number b.Vl = refl
b-of-number b.Hd = refl
b-of-number b.Hu = refl

-- ---- a byte that says a mode is that mode's number
pub y-number-of : (byte : ℕ) → byte < 5 → y_number (y_mode_at byte).1 ≡ byte
unfolding table y_mode_at mode_at
y-number-of = table-agree 5 (λ k. y_number (y_mode_at k).1) (λ k. k) refl

pub uv-number-of : (byte : ℕ) → byte < 4 → uv_number (uv_mode_at byte).1 ≡ byte
unfolding table uv_mode_at mode_at
uv-number-of = table-agree 4 (λ k. uv_number (uv_mode_at k).1) (λ k. k) refl

pub b-number-of : (byte : ℕ) → byte < 10 → b_number (b_mode_at byte).1 ≡ byte
unfolding table b_mode_at mode_at
b-number-of = table-agree 10 (λ k. b_number (b_mode_at k).1) (λ k. k) refl
