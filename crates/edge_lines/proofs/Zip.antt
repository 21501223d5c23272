-- The shuffle, byte by byte; four of them turn sixteen rows of eight into eight lines of sixteen, three turn them back. Assumes nothing.
use Prim.Native.Nat.{ℕ, ◌+◌, ◌*◌, ◌/◌, ◌%◌, ◌<◌}
use mathlib.Core.Path.{◌≡◌, sym, ap, subst, ◌∙◌}
use mathlib.Core.Logic.{◌≢◌, ⊎_elim}
use mathlib.Core.List.{List}
use native.Mathlib.Nat.{eq-or-lt_of_le}
use native.Mathlib.Omega.{arith}
use lib.ListN.{length, get_or, set, length-set}
use lib.Seq.{get_or-set_same, get_or-set_other}
use Rattle.edge_lines.specs.Lines.{zip_turn, Zipped, Flat}

abbrev pub from : ℕ → ℕ
from i = i / 2 + 64 * (i % 2)

module _ (b o : List ℕ) (k : ℕ) (size : length o ≡ 128) (low : k < 64) (h : (i : ℕ) → i < 2 * k → get_or o i 0 ≡ get_or b (from i) 0) where
  pub zip_more : (i : ℕ) → i < 2 * (k + 1) → get_or (zip_turn b k o) i 0 ≡ get_or b (from i) 0
  zip_more i p =
      ⊎_elim
      (λ (e : i ≡ 2 * k + 1).
      let s : 2 * k + 1 < length (set o (2 * k) (get_or b k 0)) = subst (λ (m : ℕ). 2 * k + 1 < m) (sym (length-set o (2 * k) (get_or b k 0) ∙ size)) (omega arith) in
      let f : 64 + k ≡ from i = omega arith in
      ap (λ (m : ℕ). get_or (zip_turn b k o) m 0) e ∙ get_or-set_same (set o (2 * k) (get_or b k 0)) (2 * k + 1) (get_or b (64 + k) 0) 0 s ∙ ap (λ (m : ℕ). get_or b m 0) f)
      (λ (q : i < 2 * k + 1).
      let n : i ≢ 2 * k + 1 = λ e. omega arith in
      get_or-set_other (set o (2 * k) (get_or b k 0)) (2 * k + 1) i (get_or b (64 + k) 0) 0 n
      ∙ ⊎_elim
      (λ (e : i ≡ 2 * k).
      let s : 2 * k < length o = subst (λ (m : ℕ). 2 * k < m) (sym size) (omega arith) in
      let f : k ≡ from i = omega arith in
      ap (λ (m : ℕ). get_or (set o (2 * k) (get_or b k 0)) m 0) e ∙ get_or-set_same o (2 * k) (get_or b k 0) 0 s ∙ ap (λ (m : ℕ). get_or b m 0) f)
      (λ (r : i < 2 * k). let n : i ≢ 2 * k = λ e. omega arith in get_or-set_other o (2 * k) i (get_or b k 0) 0 n ∙ h i r)
      (eq-or-lt_of_le (omega arith)))
      (eq-or-lt_of_le (omega arith))

zipped-at : (b r : List ℕ) → Zipped b r → (i j : ℕ) → i < 128 → j ≡ from i → get_or r i 0 ≡ get_or b j 0
zipped-at b r h i j p e = h.is i p ∙ ap (λ (m : ℕ). get_or b m 0) (sym e)

-- with k and d in bits
module _ (b r s t u : List ℕ) (e : Zipped b r) (f : Zipped r s) (g : Zipped s t) (h : Zipped t u) where
  flat-bits : (d x y z w : ℕ) → d < 8 → x < 2 → y < 2 → z < 2 → w < 2
      → get_or u (16 * d + (x + 2 * y + 4 * z + 8 * w)) 0 ≡ get_or b (8 * (x + 2 * y + 4 * z + 8 * w) + d) 0
  flat-bits d x y z w p px py pz pw =
      zipped-at t u h (16 * d + (x + 2 * y + 4 * z + 8 * w)) (8 * d + y + 2 * z + 4 * w + 64 * x) (omega arith) (omega arith)
      ∙ zipped-at s t g (8 * d + y + 2 * z + 4 * w + 64 * x) (4 * d + z + 2 * w + 32 * x + 64 * y) (omega arith) (omega arith)
      ∙ zipped-at r s f (4 * d + z + 2 * w + 32 * x + 64 * y) (2 * d + w + 16 * x + 32 * y + 64 * z) (omega arith) (omega arith)
      ∙ zipped-at b r e (2 * d + w + 16 * x + 32 * y + 64 * z) (8 * (x + 2 * y + 4 * z + 8 * w) + d) (omega arith) (omega arith)

  pub flat-is : Flat b u
  flat-is =
      record {
        is =
            λ d k p q.
            let n : k % 2 + 2 * (k / 2 % 2) + 4 * (k / 2 / 2 % 2) + 8 * (k / 2 / 2 / 2) ≡ k = omega arith in
            subst (λ (m : ℕ). get_or u (16 * d + m) 0 ≡ get_or b (8 * m + d) 0) n (flat-bits d (k % 2) (k / 2 % 2) (k / 2 / 2 % 2) (k / 2 / 2 / 2) p (omega arith) (omega arith) (omega arith) (omega arith));
      }

module _ (b r s t : List ℕ) (e : Zipped b r) (f : Zipped r s) (g : Zipped s t) where
  tall-bits : (k x y z : ℕ) → k < 16 → x < 2 → y < 2 → z < 2 → get_or t (8 * k + (x + 2 * y + 4 * z)) 0 ≡ get_or b (16 * (x + 2 * y + 4 * z) + k) 0
  tall-bits k x y z p px py pz =
      zipped-at s t g (8 * k + (x + 2 * y + 4 * z)) (4 * k + y + 2 * z + 64 * x) (omega arith) (omega arith)
      ∙ zipped-at r s f (4 * k + y + 2 * z + 64 * x) (2 * k + z + 32 * x + 64 * y) (omega arith) (omega arith)
      ∙ zipped-at b r e (2 * k + z + 32 * x + 64 * y) (16 * (x + 2 * y + 4 * z) + k) (omega arith) (omega arith)

  pub tall-is : Flat t b
  tall-is =
      record {
        is =
            λ d k p q.
            let n : d % 2 + 2 * (d / 2 % 2) + 4 * (d / 2 / 2) ≡ d = omega arith in
            sym (subst (λ (m : ℕ). get_or t (8 * k + m) 0 ≡ get_or b (16 * m + k) 0) n (tall-bits k (d % 2) (d / 2 % 2) (d / 2 / 2) q (omega arith) (omega arith) (omega arith)));
      }
