-- Columns as lines: sixteen rows of eight, turned, are eight lines of a window. Once over the lanes (a to a + n - 1: all of them for Y, 0 to 7 for U, 8 to 15
-- for V) and over how many blocks of eight lines the window has. Assumes nothing.
--     eights-tall, pair-u, pair-v     the rows as they were taken
--     built-one                       a window of eight lines
--     laid_more                       a plane with eight lines of the window more put back
--     laid-is                         once all are put back, it is the plane that the window agrees with
use Prim.Native.Nat.{ℕ, ◌+◌, ◌-◌, ◌*◌, ◌<◌, ◌≤◌}
use mathlib.Core.Path.{◌≡◌, refl, sym, ap, subst, ◌∙◌}
use mathlib.Core.Logic.{◌≢◌, ⊎_elim}
use mathlib.Core.List.{List}
use native.Mathlib.Nat.{eq-or-lt_of_le, not-suc-le-zero, le_refl}
use native.Mathlib.Omega.{arith}
use lib.ListN.{length, get_or, length-replicate}
use Rattle.edge_lines.specs.Lines.{Fits, rows_put, zeros, Flat}
use Rattle.edge_lines.proofs.Rows.{rows_apart, length-put, put-there, put-beside}
use Rattle.macroblock.specs.declared.filter.Limits.{Limits}
use Rattle.macroblock.specs.declared.filter.Kind.{Kind}
use Rattle.rfc6386.specs.LoopFilter.{edge}
use Rattle.rfc6386.proofs.FilterReach.{length-edge}
use Rattle.edge_lines.proofs.Window.{Agree, Distinct, Off, window-back, agree-all, off-all, lt-or-ge}

length-zeros : (n : ℕ) → length (zeros n) ≡ n
unfolding zeros
length-zeros n = let o : ℕ = 0 in length-replicate n o

pub zeros-fit : (w h at s n : ℕ) → ((k : ℕ) → k < h → at + k * s + w ≤ n) → Fits w h at s (zeros n)
zeros-fit w h at s n u = record { inside = λ k p. subst (λ (m : ℕ). at + k * s + w ≤ m) (sym (length-zeros n)) (u k p) }

-- rows a to a + n - 1 of the block are n rows of the plane
pub record Tall (a n at s : ℕ) (e y : List ℕ) : Type 0 where
  pub is : (d k : ℕ) → d < 8 → k < n → get_or e (8 * (a + k) + d) 0 ≡ get_or y (at + k * s + d) 0

pub eights-tall : (at s : ℕ) (y : List ℕ) → Tall 0 16 at s (rows_put 8 16 0 8 at s y (zeros 128)) y
eights-tall at s y =
    record {
      is =
          λ d k p q.
          let i : 8 * (0 + k) + d ≡ 0 + k * 8 + d = omega arith in
          ap (λ (j : ℕ). get_or (rows_put 8 16 0 8 at s y (zeros 128)) j 0) i
          ∙ put-there 8 0 8 at s y (zeros 128) 16 (le_refl 8) (zeros-fit 8 16 0 8 128 (λ m r. omega arith)) k d q p;
    }

module _ (at s : ℕ) (u v : List ℕ) where
  abbrev first : List ℕ
  first = rows_put 8 8 0 8 at s u (zeros 128)

  pub pair-u : Tall 0 8 at s (rows_put 8 8 64 8 at s v first) u
  pair-u =
      record {
        is =
            λ d k p q.
            let i : 8 * (0 + k) + d ≡ 0 + k * 8 + d = omega arith in
            ap (λ (j : ℕ). get_or (rows_put 8 8 64 8 at s v first) j 0) i
            ∙ put-beside 8 64 8 at s v first 8 (0 + k * 8 + d) (λ m e x y (r : 0 + k * 8 + d ≡ 64 + m * 8 + e). omega arith)
            ∙ put-there 8 0 8 at s u (zeros 128) 8 (le_refl 8) (zeros-fit 8 8 0 8 128 (λ m r. omega arith)) k d q p;
      }

  pub pair-v : Tall 8 8 at s (rows_put 8 8 64 8 at s v first) v
  pair-v =
      record {
        is =
            λ d k p q.
            let i : 8 * (8 + k) + d ≡ 64 + k * 8 + d = omega arith in
            ap (λ (j : ℕ). get_or (rows_put 8 8 64 8 at s v first) j 0) i
            ∙ put-there 8 64 8 at s v first 8 (le_refl 8)
            (record { inside = λ m r. subst (λ (j : ℕ). 64 + m * 8 + 8 ≤ j) (sym (length-put 8 0 8 at s u (zeros 128) 8)) ((zeros-fit 8 8 64 8 128 (λ m r. omega arith)).inside m r) })
            k d q p;
      }

module _ (lines a n base s : ℕ) (wide : lines ≤ s) (fit : a + n ≤ 16) where
  one_lane : (d k e m : ℕ) → d < lines → e < lines → base + d * 1 + k * s ≡ base + e * 1 + m * s → k ≡ m
  one_lane d k e m p q h =
      ⊎_elim
      (λ (x : k < m). absurd (rows_apart lines base s k m d e wide x p q (omega arith)))
      (λ (x : m ≤ k).
      ⊎_elim
      (λ (y : m ≡ k). sym y)
      (λ (y : m < k). absurd (rows_apart lines base s m k e d wide y q p (omega arith)))
      (eq-or-lt_of_le x))
      (lt-or-ge k m)

  pub distinct : Distinct lines a n base 1 s
  distinct =
      record {
        fit = fit;
        one =
            λ d k e m p _ q _ h.
            let i : k ≡ m = one_lane d k e m p q h in
            let j : k * s ≡ m * s = ap (λ (x : ℕ). x * s) i in
            (omega arith, i);
      }

  -- ---- a window of m blocks
  pub record Built (m : ℕ) (w y : List ℕ) : Type 0 where
    pub is : (d k : ℕ) → d < 8 * m → k < n → get_or w (16 * d + (a + k)) 0 ≡ get_or y (base + d * 1 + k * s) 0

  pub built-one : (e q y : List ℕ) → Tall a n base s e y → Flat e q → Built 1 q y
  built-one e q y t f =
      record {
        is =
            λ d k p r.
            let i : base + k * s + d ≡ base + d * 1 + k * s = omega arith in
            f.is d (a + k) p (omega arith) ∙ t.is d k p r ∙ ap (λ (j : ℕ). get_or y j 0) i;
      }

  pub built-agree : (m : ℕ) (w y : List ℕ) → 8 * m ≡ lines → Built m w y → 16 * lines ≤ length w → Fits lines n base s y → Agree lines a n base 1 s w y
  built-agree m w y e h size t =
      record {
        here = λ d k p q. h.is d k (omega arith) q;
        wide = λ d k p q. omega arith;
        deep = λ d k p q. let u = t.inside k q in omega arith;
      }

  -- ---- a plane with m blocks of the window put back
  pub record Laid (m : ℕ) (c w b : List ℕ) : Type 0 where
    pub size : length c ≡ length b
    pub in_place : (d k : ℕ) → d < 8 * m → k < n → get_or c (base + d * 1 + k * s) 0 ≡ get_or w (16 * d + (a + k)) 0
    pub around : (j : ℕ) → ((d k : ℕ) → d < 8 * m → k < n → j ≢ base + d * 1 + k * s) → get_or c j 0 ≡ get_or b j 0

  pub laid_none : (w b : List ℕ) → Laid 0 b w b
  laid_none w b = record { size = refl; in_place = λ d k p q. absurd (not-suc-le-zero p); around = λ j u. refl }

  module _ (m : ℕ) (c w b o g : List ℕ) (h : Laid m c w b) (room : 8 * m + 8 ≤ lines) (f : Flat o g)
      (same : (i : ℕ) → i < 128 → get_or g i 0 ≡ get_or w (128 * m + i) 0) (t : Fits lines n base s b) where
    abbrev next : List ℕ
    next = rows_put 8 n (base + 8 * m) s (8 * a) 8 o c

    fits : Fits 8 n (base + 8 * m) s c
    fits = record { inside = λ k q. let e = h.size in let u = t.inside k q in omega arith }

    old : (d k : ℕ) → d < 8 * m → k < n → get_or next (base + d * 1 + k * s) 0 ≡ get_or w (16 * d + (a + k)) 0
    old d k p q =
        put-beside 8 (base + 8 * m) s (8 * a) 8 o c n (base + d * 1 + k * s)
        (λ i e x y (r : base + d * 1 + k * s ≡ base + 8 * m + i * s + e).
        let l : k ≡ i = one_lane d k (8 * m + e) i (omega arith) (omega arith) (omega arith) in
        let v : k * s ≡ i * s = ap (λ (z : ℕ). z * s) l in
        omega arith)
        ∙ h.in_place d k p q

    new : (d k : ℕ) → d < 8 → k < n → get_or next (base + (8 * m + d) * 1 + k * s) 0 ≡ get_or w (16 * (8 * m + d) + (a + k)) 0
    new d k p q =
        let i : base + (8 * m + d) * 1 + k * s ≡ base + 8 * m + k * s + d = omega arith in
        let j : 8 * a + k * 8 + d ≡ 8 * (a + k) + d = omega arith in
        let v : 128 * m + (16 * d + (a + k)) ≡ 16 * (8 * m + d) + (a + k) = omega arith in
        ap (λ (x : ℕ). get_or (rows_put 8 n (base + 8 * m) s (8 * a) 8 o c) x 0) i
        ∙ put-there 8 (base + 8 * m) s (8 * a) 8 o c n (omega arith) fits k d q p
        ∙ ap (λ (x : ℕ). get_or o x 0) j
        ∙ sym (f.is d (a + k) p (omega arith))
        ∙ same (16 * d + (a + k)) (omega arith)
        ∙ ap (λ (x : ℕ). get_or w x 0) v

    both : (d k : ℕ) → d < 8 * (m + 1) → k < n → get_or next (base + d * 1 + k * s) 0 ≡ get_or w (16 * d + (a + k)) 0
    both d k p q =
        ⊎_elim
        (λ (x : d < 8 * m). old d k x q)
        (λ (x : 8 * m ≤ d).
        let e : 8 * m + (d - 8 * m) ≡ d = omega arith in
        subst (λ (i : ℕ). get_or next (base + i * 1 + k * s) 0 ≡ get_or w (16 * i + (a + k)) 0) e (new (d - 8 * m) k (omega arith) q))
        (lt-or-ge d (8 * m))

    more : Laid (m + 1) (rows_put 8 n (base + 8 * m) s (8 * a) 8 o c) w b
    more =
        record {
          size = length-put 8 (base + 8 * m) s (8 * a) 8 o c n ∙ h.size;
          in_place = both;
          around =
              λ j u.
              put-beside 8 (base + 8 * m) s (8 * a) 8 o c n j (λ k e x y (r : j ≡ base + 8 * m + k * s + e). u (8 * m + e) k (omega arith) x (omega arith))
              ∙ h.around j (λ d k x y. u d k (omega arith) y);
        }

  pub laid_more : (m at from : ℕ) → at ≡ base + 8 * m → from ≡ 8 * a → (c w b o g : List ℕ) → Laid m c w b → 8 * m + 8 ≤ lines → Flat o g
      → ((i : ℕ) → i < 128 → get_or g i 0 ≡ get_or w (128 * m + i) 0) → Fits lines n base s b → Laid (m + 1) (rows_put 8 n at s from 8 o c) w b
  laid_more m at from x y c w b o g h room f same t = rw (x, y) (more m c w b o g h room f same t)

  pub laid-is : (m : ℕ) (c w b b' : List ℕ) → 8 * m ≡ lines → Laid m c w b → Agree lines a n base 1 s w b' → length b' ≡ length b
      → ((j : ℕ) → Off lines a n base 1 s j → get_or b' j 0 ≡ get_or b j 0) → c ≡ b'
  laid-is m c w b b' e h g size keep =
      window-back lines a n base 1 s w b b' c g (h.size ∙ sym size) (λ d k p q. h.in_place d k (omega arith) q)
      (λ j u. h.around j (λ d k p q. u d k (omega arith) q))
      keep

-- one block: an edge of lanes a to a + n - 1
module _ (kind : Kind) (l : Limits) (a n at base s : ℕ) (here : at ≡ base + 4) (wide : 8 ≤ s) (fit : a + n ≤ 16) where
  pub upright-is : (from : ℕ) → from ≡ 8 * a → (y e f g o : List ℕ) → Fits 8 n base s y → Tall a n base s e y → Flat e f → length f ≡ 128
      → g ≡ edge kind l 16 64 16 1 f → Flat o g → rows_put 8 n base s from 8 o y ≡ edge kind l n at 1 s y
  upright-is from x y e f g o t r h size is back =
      let q : at ≡ base + (0 + 4) * 1 + 0 * s = omega arith in
      let z = distinct 8 a n base s wide fit in
      let w : Agree 8 a n base 1 s f y = built-agree 8 a n base s wide fit 1 f y refl (built-one 8 a n base s wide fit e f y r h) (omega arith) t in
      let v : Agree 8 a n base 1 s g (edge kind l n at 1 s y) =
      rw is (agree-all 8 a n base 1 s z kind l 0 (omega arith) 64 at refl q f y w) in
      laid-is 8 a n base s wide fit 1 (rows_put 8 n base s from 8 o y) g y (edge kind l n at 1 s y) refl
      (laid_more 8 a n base s wide fit 0 base from (omega arith) x y g y o g (laid_none 8 a n base s wide fit g y) (omega arith) back (λ i p. let v : i ≡ 128 * 0 + i = omega arith in ap (λ (j : ℕ). get_or g j 0) v) t)
      v
      (length-edge kind l n at 1 s y)
      (λ j u. off-all 8 a n base 1 s z kind l 0 (omega arith) at q y j u)
