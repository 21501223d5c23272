-- Rows as lines: eight rows of a plane are eight lines of a window. Once over the lanes: sixteen for Y, 0 to 7 for U, 8 to 15 for V. Assumes nothing.
--     rows-agree, rows-u, rows-v     the window as it was taken
--     back_is                        put back, it is the plane that the window agrees with
use Prim.Native.Nat.{ℕ, ◌+◌, ◌*◌, ◌<◌, ◌≤◌}
use mathlib.Core.Path.{◌≡◌, refl, sym, ap, subst, ◌∙◌}
use mathlib.Core.Logic.{⊎_elim}
use mathlib.Core.List.{List}
use native.Mathlib.Nat.{eq-or-lt_of_le, le_refl}
use native.Mathlib.Omega.{arith}
use lib.ListN.{length, get_or}
use Rattle.edge_lines.specs.Lines.{Fits, rows_put, zeros}
use Rattle.edge_lines.proofs.Rows.{rows_apart, length-put, put-there, put-beside}
use Rattle.macroblock.specs.declared.filter.Limits.{Limits}
use Rattle.macroblock.specs.declared.filter.Kind.{Kind}
use Rattle.rfc6386.specs.LoopFilter.{edge}
use Rattle.rfc6386.proofs.FilterReach.{length-edge}
use Rattle.edge_lines.proofs.Window.{Agree, Distinct, Off, window-back, agree-all, off-all, lt-or-ge}
use Rattle.edge_lines.proofs.Columns.{zeros-fit}

-- line d, lane a + k of the window is row d, column k
pub record Broad (a n at s : ℕ) (w y : List ℕ) : Type 0 where
  pub is : (d k : ℕ) → d < 8 → k < n → get_or w (a + d * 16 + k) 0 ≡ get_or y (at + d * s + k) 0

pub rows-broad : (at s : ℕ) (y : List ℕ) → Broad 0 16 at s (rows_put 16 8 0 16 at s y (zeros 128)) y
rows-broad at s y =
    record { is = λ d k p q. put-there 16 0 16 at s y (zeros 128) 8 (le_refl 16) (zeros-fit 16 8 0 16 128 (λ m r. omega arith)) d k p q }

module _ (at s : ℕ) (u v : List ℕ) where
  abbrev first : List ℕ
  first = rows_put 8 8 0 16 at s u (zeros 128)

  pub rows-u : Broad 0 8 at s (rows_put 8 8 8 16 at s v first) u
  rows-u =
      record {
        is =
            λ d k p q.
            put-beside 8 8 16 at s v first 8 (0 + d * 16 + k) (λ m e x y (r : 0 + d * 16 + k ≡ 8 + m * 16 + e). omega arith)
            ∙ put-there 8 0 16 at s u (zeros 128) 8 (omega arith) (zeros-fit 8 8 0 16 128 (λ m r. omega arith)) d k p q;
      }

  pub rows-v : Broad 8 8 at s (rows_put 8 8 8 16 at s v first) v
  rows-v =
      record {
        is =
            λ d k p q.
            put-there 8 8 16 at s v first 8 (omega arith)
            (record { inside = λ m r. subst (λ (j : ℕ). 8 + m * 16 + 8 ≤ j) (sym (length-put 8 0 16 at s u (zeros 128) 8)) ((zeros-fit 8 8 8 16 128 (λ m r. omega arith)).inside m r) })
            d k p q;
      }

module _ (a n base s : ℕ) (wide : n ≤ s) (fit : a + n ≤ 16) where
  one_line : (d k e m : ℕ) → k < n → m < n → base + d * s + k * 1 ≡ base + e * s + m * 1 → d ≡ e
  one_line d k e m p q h =
      ⊎_elim
      (λ (x : d < e). absurd (rows_apart n base s d e k m wide x p q (omega arith)))
      (λ (x : e ≤ d).
      ⊎_elim
      (λ (y : e ≡ d). sym y)
      (λ (y : e < d). absurd (rows_apart n base s e d m k wide y q p (omega arith)))
      (eq-or-lt_of_le x))
      (lt-or-ge d e)

  pub distinct : Distinct 8 a n base s 1
  distinct =
      record {
        fit = fit;
        one =
            λ d k e m _ p _ q h.
            let i : d ≡ e = one_line d k e m p q h in
            let j : d * s ≡ e * s = ap (λ (x : ℕ). x * s) i in
            (i, omega arith);
      }

  pub broad-agree : (w y : List ℕ) → Broad a n base s w y → length w ≡ 128 → Fits n 8 base s y → Agree 8 a n base s 1 w y
  broad-agree w y h size t =
      record {
        here =
            λ d k p q.
            let i : 16 * d + (a + k) ≡ a + d * 16 + k = omega arith in
            let j : base + d * s + k ≡ base + d * s + k * 1 = omega arith in
            ap (λ (x : ℕ). get_or w x 0) i ∙ h.is d k p q ∙ ap (λ (x : ℕ). get_or y x 0) j;
        wide = λ d k p q. subst (λ (i : ℕ). 16 * d + (a + k) < i) (sym size) (omega arith);
        deep = λ d k p q. let u = t.inside d p in omega arith;
      }

  pub back_is : (w b b' : List ℕ) → Fits n 8 base s b → Agree 8 a n base s 1 w b' → length b' ≡ length b
      → ((j : ℕ) → Off 8 a n base s 1 j → get_or b' j 0 ≡ get_or b j 0) → rows_put n 8 base s a 16 w b ≡ b'
  back_is w b b' t g size keep =
      window-back 8 a n base s 1 w b b' (rows_put n 8 base s a 16 w b) g
      (length-put n base s a 16 w b 8 ∙ sym size)
      (λ d k p q.
      let i : base + d * s + k * 1 ≡ base + d * s + k = omega arith in
      let j : a + d * 16 + k ≡ 16 * d + (a + k) = omega arith in
      ap (λ (x : ℕ). get_or (rows_put n 8 base s a 16 w b) x 0) i ∙ put-there n base s a 16 w b 8 wide t d k p q ∙ ap (λ (x : ℕ). get_or w x 0) j)
      (λ j u. put-beside n base s a 16 w b 8 j (λ d k p q (x : j ≡ base + d * s + k). u d k p q (omega arith)))
      keep

-- an edge of lanes a to a + n - 1
module _ (kind : Kind) (l : Limits) (a n at base s : ℕ) (here : at ≡ base + 4 * s) (wide : n ≤ s) (fit : a + n ≤ 16) where
  pub level-is : (y w g : List ℕ) → Fits n 8 base s y → Broad a n base s w y → length w ≡ 128 → g ≡ edge kind l 16 64 16 1 w
      → rows_put n 8 base s a 16 g y ≡ edge kind l n at s 1 y
  level-is y w g t r size is =
      let q : at ≡ base + (0 + 4) * s + 0 * 1 = omega arith in
      let z = distinct a n base s wide fit in
      let v : Agree 8 a n base s 1 g (edge kind l n at s 1 y) =
      rw is (agree-all 8 a n base s 1 z kind l 0 (omega arith) 64 at refl q w y (broad-agree a n base s wide fit w y r size t)) in
      back_is a n base s wide fit g y (edge kind l n at s 1 y) t v (length-edge kind l n at s 1 y) (λ j u. off-all 8 a n base s 1 z kind l 0 (omega arith) at q y j u)
