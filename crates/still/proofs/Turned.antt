-- A turn of the drawing, and a drawing that has ended. Assumes nothing.
use Prim.Native.Nat.{ℕ, zero, suc, ◌+◌, ◌-◌, ◌/◌, ◌<◌}
use mathlib.Core.Path.{◌≡◌, refl, sym, ap, ◌∙◌}
use mathlib.Core.List.{List}
use native.Mathlib.Nat.{add-zero, add-suc}
use native.Mathlib.Omega.{arith}
use borrow.Author.Tests.{ne_eqb}
use lib.Dec.{eqb}
use lib.IntN.{ℤ}
use Rattle.lists.specs.Lists.{turns, pick, ◌beside◌, total}
use Rattle.lists.proofs.Turns.{turns-step}
use Rattle.lists.proofs.Total.{total-add, total_ext, total-none}
use Rattle.still.specs.Picture.{Progress, progress, drawn_at, turn, count_at, count_in}

-- a sum whose later parts are all 0
total-rest : (m n : ℕ) (f : ℕ → ℕ) → ((i : ℕ) → f (m + i) ≡ 0) → total m f ≡ total (m + n) f
total-rest m n f e =
    let z : total n (λ k. f (m + k)) ≡ 0 = total_ext n (λ k. f (m + k)) (λ k. 0) (λ i l. e i) ∙ total-none n in
    omega (arith, total-add m n f, z)

module _ (w h : ℕ) (modes subs : List ℕ) (coeffs : List ℤ) (right : ℕ → List ℕ → List ℕ) where
  -- ---- a turn, the right-hand pixels in hand
  turned : (k : ℕ) (s : Progress) (y u v p : List ℕ) (r : ℕ) (yy uu vv : List ℕ)
      → progress 0 0 y u v ≡ turns k (turn w h modes subs coeffs right) s → p ≡ right (k / w) y
      → (r beside yy beside uu beside vv) ≡ drawn_at w h modes subs coeffs (λ r y. p) k y u v
      → progress r (pick (eqb r 0) 0 k) yy uu vv ≡ turns (k + 1) (turn w h modes subs coeffs right) s
  unfolding turn drawn_at
  turned k s y u v p r yy uu vv e q d =
      turns-step k (turn w h modes subs coeffs right) s (progress 0 0 y u v) (progress r (pick (eqb r 0) 0 k) yy uu vv) e
      (ap (λ (t : ℕ × (List ℕ × (List ℕ × List ℕ))). progress t.0 (pick (eqb t.0 0) 0 k) t.1.0 t.1.1.0 t.1.1.1) (rw (← q) d))

  pub again : (k : ℕ) (s : Progress) (y u v p : List ℕ) (r : ℕ) (yy uu vv : List ℕ)
      → progress 0 0 y u v ≡ turns k (turn w h modes subs coeffs right) s → p ≡ right (k / w) y
      → (r beside yy beside uu beside vv) ≡ drawn_at w h modes subs coeffs (λ r y. p) k y u v → r ≡ 0
      → progress 0 0 yy uu vv ≡ turns (k + 1) (turn w h modes subs coeffs right) s
  again k s y u v p r yy uu vv e q d z =
      sym (ap (λ (t : ℕ). progress t (pick (eqb t 0) 0 k) yy uu vv) z) ∙ turned k s y u v p r yy uu vv e q d

  -- ---- a refusal ends it
  kept : (m j : ℕ) (s d : Progress) → d ≡ turns m (turn w h modes subs coeffs right) s → (d.reply ≡ 0 → ⊥)
      → d ≡ turns (m + j) (turn w h modes subs coeffs right) s
  unfolding turns turn
  kept m zero s d e k = rw add-zero e
  kept m (suc j) s d e k = rw (add-suc, ← kept m j s d e k, ne_eqb d.reply 0 k) refl

  pub ended : (n k : ℕ) (s : Progress) (y u v p : List ℕ) (r : ℕ) (yy uu vv : List ℕ) → k < n
      → progress 0 0 y u v ≡ turns k (turn w h modes subs coeffs right) s → p ≡ right (k / w) y
      → (r beside yy beside uu beside vv) ≡ drawn_at w h modes subs coeffs (λ r y. p) k y u v → (r ≡ 0 → ⊥)
      → progress r k yy uu vv ≡ turns n (turn w h modes subs coeffs right) s
  ended n k s y u v p r yy uu vv l e q d z =
      let stopped : progress r k yy uu vv ≡ turns (k + 1) (turn w h modes subs coeffs right) s =
      ap (λ (t : ℕ). progress r t yy uu vv) (rw (ne_eqb r 0 z) refl) ∙ turned k s y u v p r yy uu vv e q d in
      let rest : k + 1 + (n - (k + 1)) ≡ n = omega arith in
      kept (k + 1) (n - (k + 1)) s (progress r k yy uu vv) stopped z ∙ ap (λ (t : ℕ). turns t (turn w h modes subs coeffs right) s) rest

  -- ---- the counts
  -- a turn's, the right-hand pixels in hand
  pub count_turn : (k : ℕ) (s : Progress) (y u v p : List ℕ) (n : ℕ) → progress 0 0 y u v ≡ turns k (turn w h modes subs coeffs right) s → p ≡ right (k / w) y
      → n ≡ count_at w h modes subs coeffs (λ r y. p) k y u v
      → n ≡ count_in w h modes subs coeffs right k (turns k (turn w h modes subs coeffs right) s)
  unfolding count_in count_at
  count_turn k s y u v p n e q d = rw (← e, ← q) d

  -- what follows a refusal counts nothing
  none_after : (m i : ℕ) (s d : Progress) → d ≡ turns m (turn w h modes subs coeffs right) s → (d.reply ≡ 0 → ⊥)
      → count_in w h modes subs coeffs right (m + i) (turns (m + i) (turn w h modes subs coeffs right) s) ≡ 0
  unfolding count_in
  none_after m i s d e z = rw (← kept m i s d e z, ne_eqb d.reply 0 z) refl

  pub count-ended : (n k : ℕ) (s : Progress) (y u v p : List ℕ) (r : ℕ) (yy uu vv : List ℕ) → k < n
      → progress 0 0 y u v ≡ turns k (turn w h modes subs coeffs right) s → p ≡ right (k / w) y
      → (r beside yy beside uu beside vv) ≡ drawn_at w h modes subs coeffs (λ r y. p) k y u v → (r ≡ 0 → ⊥)
      → total (k + 1) (λ j. count_in w h modes subs coeffs right j (turns j (turn w h modes subs coeffs right) s))
      ≡ total n (λ j. count_in w h modes subs coeffs right j (turns j (turn w h modes subs coeffs right) s))
  count-ended n k s y u v p r yy uu vv l e q d z =
      let stopped : progress r k yy uu vv ≡ turns (k + 1) (turn w h modes subs coeffs right) s =
      ap (λ (t : ℕ). progress r t yy uu vv) (rw (ne_eqb r 0 z) refl) ∙ turned k s y u v p r yy uu vv e q d in
      let whole : k + 1 + (n - (k + 1)) ≡ n = omega arith in
      total-rest (k + 1) (n - (k + 1)) (λ j. count_in w h modes subs coeffs right j (turns j (turn w h modes subs coeffs right) s))
      (λ i. none_after (k + 1) i s (progress r k yy uu vv) stopped z)
      ∙ ap (λ (m : ℕ). total m (λ j. count_in w h modes subs coeffs right j (turns j (turn w h modes subs coeffs right) s))) whole
