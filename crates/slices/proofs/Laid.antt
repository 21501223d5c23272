-- Three planes put into their parts of one slice of 384: Y, U, V one after another. Assumes nothing.
use mathlib.Core.Path.{◌≡◌, sym, ap, ◌∙◌}
use mathlib.Core.List.{List, ◌++◌, append_assoc, append-nil}
use Prim.Native.Nat.{ℕ}
use native.Mathlib.Omega.{arith}
use lib.ListN.{length, drop, length-append, length-drop}
use lib.Seq.{take_at, drop_at, drop-length}
use borrow.Rule.Slice.PartMut.{mid_of, post_of, put_mid, mid_len}
use Rattle.slices.specs.Copies.{put_in}
use Rattle.slices.proofs.Copied.{put_fit}

module _ (out y u v : List ℕ) (fit : length out ≡ 384) (ly : length y ≡ 256) (lu : length u ≡ 64) (lv : length v ≡ 64) where
  -- after Y
  one : (a : List ℕ) → a ≡ put_in 256 y (mid_of 0 256 out) → a ≡ y
  one a e = e ∙ put_fit 256 y (mid_of 0 256 out) (mid_len 0 256 out (omega (arith, fit)))

  rest : List ℕ
  rest = drop 256 out

  rest-length : length rest ≡ 128
  unfolding rest
  rest-length = length-drop 256 out ∙ omega (arith, fit)

  -- after U
  two : (b : List ℕ) → b ≡ put_in 64 u (mid_of 256 64 (y ++ rest)) → put_mid 256 64 (y ++ rest) b ≡ (y ++ u) ++ drop 64 rest
  two b e =
      let whole : length (y ++ rest) ≡ 384 = length-append y rest ∙ omega (arith, ly, rest-length) in
      let same : b ≡ u = e ∙ put_fit 64 u (mid_of 256 64 (y ++ rest)) (mid_len 256 320 (y ++ rest) (omega (arith, whole))) in
      rw (same, take_at y rest 256 ly, drop_at y rest 256 ly) (sym (append_assoc y u (drop 64 rest)))

  -- after V
  three : (c : List ℕ) → c ≡ put_in 64 v (mid_of 320 64 ((y ++ u) ++ drop 64 rest)) → put_mid 320 64 ((y ++ u) ++ drop 64 rest) c ≡ y ++ (u ++ v)
  three c e =
      let last : length (drop 64 rest) ≡ 64 = length-drop 64 rest ∙ omega (arith, rest-length) in
      let both : length (y ++ u) ≡ 320 = length-append y u ∙ omega (arith, ly, lu) in
      let whole : length ((y ++ u) ++ drop 64 rest) ≡ 384 = length-append (y ++ u) (drop 64 rest) ∙ omega (arith, both, last) in
      let same : c ≡ v = e ∙ put_fit 64 v (mid_of 320 64 ((y ++ u) ++ drop 64 rest)) (mid_len 320 384 ((y ++ u) ++ drop 64 rest) (omega (arith, whole))) in
      rw (same, take_at (y ++ u) (drop 64 rest) 320 both, drop_at (y ++ u) (drop 64 rest) 320 both)
      (ap (λ (l : List ℕ). (y ++ u) ++ (v ++ l)) (ap (λ (k : ℕ). drop k (drop 64 rest)) (sym last) ∙ drop-length (drop 64 rest))
      ∙ ap (λ (l : List ℕ). (y ++ u) ++ l) (append-nil v) ∙ append_assoc y u v)

  pub laid : (a b c : List ℕ) → a ≡ put_in 256 y (mid_of 0 256 out) → b ≡ put_in 64 u (mid_of 256 64 (a ++ post_of 0 256 out))
      → c ≡ put_in 64 v (mid_of 320 64 (put_mid 256 64 (a ++ post_of 0 256 out) b))
      → put_mid 320 64 (put_mid 256 64 (a ++ post_of 0 256 out) b) c ≡ y ++ (u ++ v)
  unfolding rest
  laid a b c e f g =
      let first : a ++ post_of 0 256 out ≡ y ++ rest = ap (λ (l : List ℕ). l ++ post_of 0 256 out) (one a e) in
      let second : put_mid 256 64 (a ++ post_of 0 256 out) b ≡ (y ++ u) ++ drop 64 rest =
      ap (λ (l : List ℕ). put_mid 256 64 l b) first ∙ two b (f ∙ ap (λ (l : List ℕ). put_in 64 u (mid_of 256 64 l)) first) in
      ap (λ (l : List ℕ). put_mid 320 64 l c) second ∙ three c (g ∙ ap (λ (l : List ℕ). put_in 64 v (mid_of 320 64 l)) second)
