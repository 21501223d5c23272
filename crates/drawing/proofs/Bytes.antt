-- What a mode byte says: the mode that it numbers, or that it numbers none; what one of many that says nothing leaves of their test; and
-- an answer that a test picks.
-- Assumes nothing.
use Prim.Native.Nat.{ℕ, zero, suc, ◌<◌, ◌≤◌}
use mathlib.Core.Bool.{Bool, true, false}
use mathlib.Core.Path.{◌≡◌, refl, ap}
use mathlib.Core.List.{List}
use mathlib.Core.Logic.{⊎_elim}
use native.Mathlib.Nat.{le_of_suc-le-suc, eq-or-lt_of_le}
use native.Mathlib.Omega.{arith}
use borrow.Author.Tests.{ltb-true, ltb-false, lt-leb}
use lib.Dec.{eqb, leb}
use lib.ListN.{get_or}
use Rattle.std.specs.Prelude.{Result, Ok, Err}
use Rattle.lists.specs.Lists.{pick, both, within}
use Rattle.macroblock.specs.Reply.{done, unknown_byte, number}
use Rattle.macroblock.specs.declared.reply.Refusal.{Refusal}
use Rattle.macroblock.specs.declared.reply.Refusal.TheVariants as refusal
use Rattle.macroblock.specs.declared.modes.IntraYMode.{IntraYMode}
use Rattle.macroblock.specs.declared.modes.IntraYMode.TheVariants as y
use Rattle.macroblock.specs.declared.modes.IntraUvMode.{IntraUvMode}
use Rattle.macroblock.specs.declared.modes.IntraUvMode.TheVariants as uv
use Rattle.macroblock.specs.declared.modes.IntraBmode.{IntraBmode}
use Rattle.macroblock.specs.declared.modes.IntraBmode.TheVariants as b
use Rattle.macroblock.specs.Modes.{mode_at, y_mode_at, uv_mode_at, b_mode_at}
use Rattle.macroblock.specs.Says.{y_reply, y_mode, uv_reply, uv_mode, b_mode}
use Rattle.macroblock.proofs.Refusals.{number-one, number-more}

module _ {A : Type 0} (first x : A) where
  none : (t : Bool) (e : Refusal) → ◌≡◌ {A = ℕ × A} (number e, first) (pick t (done, x) (unknown_byte, first)) → (e ≡ refusal.UnknownByte) × (t ≡ false)
  none true e h =
      let m = number-more e in
      let k : number e ≡ done = ap (λ (w : ℕ × A). w.0) h in
      absurd (omega (arith, m, k))
  none false e h = (number-one e refusal.UnknownByte (ap (λ (w : ℕ × A). w.0) h), refl)

  one : (t : Bool) (m : A) → ◌≡◌ {A = ℕ × A} (done, m) (pick t (done, x) (unknown_byte, first)) → t ≡ true
  one true m h = refl
  one false m h = let k : 0 ≡ 8 = ap (λ (w : ℕ × A). w.0) h in absurd (omega (arith, k))

module _ (byte : ℕ) where
  pub y-none : (e : Refusal) → ◌≡◌ {A = ℕ × IntraYMode} (number e, y.Dc) (y_mode_at byte) → (e ≡ refusal.UnknownByte) × (eqb (y_reply byte) done ≡ false)
  unfolding y_reply y_mode_at mode_at
  y-none e h = let k = none _ _ _ e h in (k.0, rw (k.1, y_reply) refl)

  pub uv-none : (e : Refusal) → ◌≡◌ {A = ℕ × IntraUvMode} (number e, uv.Dc) (uv_mode_at byte) → (e ≡ refusal.UnknownByte) × (eqb (uv_reply byte) done ≡ false)
  unfolding uv_reply uv_mode_at mode_at
  uv-none e h = let k = none _ _ _ e h in (k.0, rw (k.1, uv_reply) refl)

  pub b-none : (e : Refusal) → ◌≡◌ {A = ℕ × IntraBmode} (number e, b.Dc) (b_mode_at byte) → (e ≡ refusal.UnknownByte) × (9 < byte)
  unfolding b_mode_at mode_at
  b-none e h = let k = none _ _ _ e h in (k.0, let l = ltb-false byte 10 k.1 in omega arith)

  pub y-one : (m : IntraYMode) → ◌≡◌ {A = ℕ × IntraYMode} (done, m) (y_mode_at byte) → (eqb (y_reply byte) done ≡ true) × (m ≡ y_mode byte)
  unfolding y_reply y_mode
  y-one m h = (rw (← h, y_reply) refl, ap (λ (w : ℕ × IntraYMode). w.1) h)

  pub uv-one : (m : IntraUvMode) → ◌≡◌ {A = ℕ × IntraUvMode} (done, m) (uv_mode_at byte) → (eqb (uv_reply byte) done ≡ true) × (m ≡ uv_mode byte)
  unfolding uv_reply uv_mode
  uv-one m h = (rw (← h, uv_reply) refl, ap (λ (w : ℕ × IntraUvMode). w.1) h)

  pub b-one : (m : IntraBmode) → ◌≡◌ {A = ℕ × IntraBmode} (done, m) (b_mode_at byte) → (byte ≤ 9) × (m ≡ b_mode byte)
  unfolding b_mode b_mode_at mode_at
  b-one m h = (let k = ltb-true byte 10 (one _ _ _ m h) in omega arith, ap (λ (w : ℕ × IntraBmode). w.1) h)

-- ---- one byte that is too large
both-no : (a : Bool) → both a false ≡ false
both-no true = refl
both-no false = refl

pub within-no : (m n k : ℕ) (s : List ℕ) → k < n → m < get_or s k 0 → within m n s ≡ false
unfolding within
within-no m zero k s l h = absurd (omega arith)
within-no m (suc n) k s l h =
    ⊎_elim (λ e. rw (← e) (rw (lt-leb (get_or s k 0) m h) refl)) (λ i. rw (within-no m n k s i h) (both-no (leb (get_or s n 0) m)))
    (eq-or-lt_of_le (le_of_suc-le-suc l))

-- ---- what a test picks
module _ {A : Type 0} (x : A) (f : Refusal) where
  pub picked-ok : (t : Bool) (a : A) → ◌≡◌ {A = Result A Refusal} (Ok a) (pick t (Ok x) (Err f)) → (t ≡ true) × (a ≡ x)
  picked-ok true a h = (refl, cc)
  picked-ok false a h = cc

  pub picked-err : (t : Bool) (e : Refusal) → ◌≡◌ {A = Result A Refusal} (Err e) (pick t (Ok x) (Err f)) → (t ≡ false) × (e ≡ f)
  picked-err true e h = cc
  picked-err false e h = (refl, cc)
