-- A macroblock drawn into the planes, by the outcome of the two tests. Assumes nothing.
use Prim.Native.Nat.{ℕ}
use mathlib.Core.Bool.{true}
use mathlib.Core.Path.{◌≡◌, refl}
use mathlib.Core.List.{List}
use borrow.Author.Tests.{eq-eqb, ne_eqb}
use lib.IntN.{ℤ}
use Rattle.lists.specs.Lists.{◌beside◌}
use Rattle.lists.proofs.Pairs.{pair}
use Rattle.gathering.specs.Answers.{Gathered, gathered}
use Rattle.reconstruct.specs.Answers.{MbAnswer}
use Rattle.drawing.specs.Drawn.{drawn}
use Rattle.canvas.specs.Placed.{placed}
use Rattle.canvas.specs.Into.{made, drawn_into, clipped_into, told_into}

module _ (w h c r luma chroma skip : ℕ) (subs right : List ℕ) (coeffs : List ℤ) (y u v : List ℕ) (g : Gathered) (e : g ≡ gathered y u v w h c r right) where
  pub not-gathered : (g.reply ≡ 0 → ⊥)
      → ((g.reply beside y beside u beside v) beside 0) ≡ told_into w h c r luma chroma skip subs right coeffs y u v
  unfolding drawn_into clipped_into
  not-gathered k = rw (← e, ne_eqb g.reply 0 k)

  module _ (z : g.reply ≡ 0) (m : MbAnswer) (d : m ≡ drawn luma chroma skip subs true g.neighbors coeffs) where
    is_made : m ≡ made w h c r luma chroma skip subs right coeffs y u v
    unfolding made
    is_made = rw (← e) d

    counted : m.clipped ≡ clipped_into w h c r luma chroma skip subs right coeffs y u v
    unfolding clipped_into
    counted = rw (← e, eq-eqb g.reply 0 z, ← is_made)

    pub not-drawn : (m.reply ≡ 0 → ⊥)
        → ((m.reply beside y beside u beside v) beside m.clipped) ≡ told_into w h c r luma chroma skip subs right coeffs y u v
    unfolding drawn_into
    not-drawn k = pair (rw (← e, eq-eqb g.reply 0 z, ← is_made, ne_eqb m.reply 0 k)) counted

    pub is-drawn : (yy uu vv : List ℕ) → m.reply ≡ 0
        → (yy ≡ placed 16 w c r m.y y) × (uu ≡ placed 8 w c r m.u u) × (vv ≡ placed 8 w c r m.v v)
        → ((0 beside yy beside uu beside vv) beside m.clipped) ≡ told_into w h c r luma chroma skip subs right coeffs y u v
    unfolding drawn_into
    is-drawn yy uu vv k p =
        pair (rw (← e, eq-eqb g.reply 0 z, ← is_made, eq-eqb m.reply 0 k) (pair refl (pair p.0 (pair p.1 p.2)))) counted
