-- The raster index of a refusal is at most 2^20, so that the number fits 64 bits. Assumes nothing.
use Prim.Native.Nat.{ℕ, zero, suc, ◌*◌, ◌≤◌}
use mathlib.Core.Bool.{Bool, true, false}
use mathlib.Core.Path.{◌≡◌, refl, ap, ◌∙◌}
use mathlib.Core.List.{List}
use native.Mathlib.Nat.{le_trans}
use native.Mathlib.Omega.{arith}
use lib.Dec.{eqb}
use lib.IntN.{ℤ}
use Rattle.lists.specs.Lists.{turns, pick, ◌beside◌}
use Rattle.std.specs.Prelude.{Result, Ok, Err}
use Rattle.still.specs.declared.StillRefusal.{StillRefusal}
use Rattle.still.specs.Picture.{Progress, progress, drawn_at, turn, first, picture, right_given, right_read}
use Rattle.still.specs.Answers.{told, alone_fits, still_fits, still_answer, alone_answer}
use Rattle.rfc6386.specs.Picture.{size_ok}
use Rattle.still.proofs.Sizes.{size-says, at_most}
use Rattle.zopredil.specs.Stills.{numbered, number_of, index_of}

-- a turn keeps the index, or sets it to 0 or to its own
turn-index : (a b : Bool) (k r : ℕ) (y u v : List ℕ) (d : Progress) → d.index ≤ k → (pick a (progress r (pick b 0 k) y u v) d).index ≤ suc k
turn-index true true k r y u v d h = omega arith
turn-index true false k r y u v d h = omega arith
turn-index false b k r y u v d h = omega arith

module _ (w h : ℕ) (modes subs : List ℕ) (coeffs : List ℤ) (right : ℕ → List ℕ → List ℕ) where
  turns-index : (n : ℕ) (s : Progress) → s.index ≡ 0 → (turns n (turn w h modes subs coeffs right) s).index ≤ n
  unfolding turns turn
  turns-index zero s e = omega (arith, e)
  turns-index (suc n) s e =
      let d = turns n (turn w h modes subs coeffs right) s in
      let t = drawn_at w h modes subs coeffs right n d.y d.u d.v in
      turn-index (eqb d.reply 0) (eqb t.0 0) n t.0 t.1.0 t.1.1.0 t.1.1.1 d (turns-index n s e)

  picture-index : (y u v : List ℕ) → (picture w h modes subs coeffs right y u v).index ≤ w * h
  unfolding picture first
  picture-index y u v = turns-index (w * h) (progress 0 0 y u v) refl

-- a progress behind two tests
tested-index : (a b : Bool) (p : Progress) (j k : ℕ) (y u v : List ℕ) → (a ≡ true → p.index ≤ 1048576)
    → (pick a (pick b p (progress j 0 y u v)) (progress k 0 y u v)).index ≤ 1048576
tested-index true true p j k y u v h = h refl
tested-index true false p j k y u v h = omega arith
tested-index false b p j k y u v h = omega arith

module _ (w h : ℕ) (modes subs : List ℕ) (coeffs : List ℤ) where
  few : size_ok w h ≡ true → w * h ≤ 1048576
  few e = let p = size-says w h e in at_most p.width p.height

  pub still-index : (right y u v : List ℕ) → (still_answer w h modes subs coeffs right y u v).index ≤ 1048576
  unfolding still_answer
  still-index right y u v =
      tested-index (size_ok w h) (still_fits w h modes subs coeffs right y u v) (picture w h modes subs coeffs (right_given right) y u v) 1 7 y u v
      (λ e. le_trans (picture-index w h modes subs coeffs (right_given right) y u v) (few e))

  pub alone-index : (y u v : List ℕ) → (alone_answer w h modes subs coeffs y u v).index ≤ 1048576
  unfolding alone_answer
  alone-index y u v =
      tested-index (size_ok w h) (alone_fits w h modes subs coeffs y u v) (picture w h modes subs coeffs (right_read w h) y u v) 1 7 y u v
      (λ e. le_trans (picture-index w h modes subs coeffs (right_read w h) y u v) (few e))

-- what is told, as a number beside the planes and the count
pub numbers-told : (r : Result ℕ StillRefusal) (y u v : List ℕ) (z : Progress × ℕ) {k : ℕ} {l : List ℕ} → told r y u v ≡ z
    → (k beside l) ≡ number_of r → (k beside y beside u beside v beside l) ≡ numbered z
unfolding numbered
numbers-told (Ok n) y u v z e h =
    ap (λ (x : ℕ × List ℕ). x.0 beside y beside u beside v beside x.1) h ∙ ap numbered e
numbers-told (Err r) y u v z e h =
    ap (λ (x : ℕ × List ℕ). x.0 beside y beside u beside v beside x.1) h ∙ ap numbered e

pub index-told : (r : Result ℕ StillRefusal) (y u v : List ℕ) (z : Progress × ℕ) → told r y u v ≡ z → z.0.index ≤ 1048576 → index_of r ≤ 1048576
index-told (Ok n) y u v z e h = omega arith
index-told (Err r) y u v z e h = rw (ap (λ (z : Progress × ℕ). z.0.index) e) h
