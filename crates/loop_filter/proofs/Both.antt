-- Two directions, one after the other, are a macroblock. Assumes nothing.
use Prim.Native.Nat.{ℕ, ◌*◌, ◌≤◌, min}
use mathlib.Core.Path.{◌≡◌, refl, ap, ◌∙◌}
use mathlib.Core.Bool.{Bool, true, false}
use mathlib.Core.List.{List}
use lib.Dec.{ltb}
use lib.ListN.{length}
use native.Mathlib.Omega.{arith}
use borrow.Author.Tests.{eq-eqb, ne_eqb}
use Rattle.lists.specs.Lists.{pick}
use Rattle.macroblock.specs.declared.filter.Rule.{Rule}
use Rattle.rfc6386.specs.LoopFilter.{rule_of, side, sides, corner, mb_of}
use Rattle.edge_lines.specs.Sides.{seated, upright_at, level_at, upright_pair, level_pair}

module _ (rule : Rule) (n cols r c : ℕ) (inner : Bool) where
  pub luma-is : (b d : List ℕ) → seated n (length b) cols r c ≡ true → length d ≡ length b → d ≡ upright_at rule n cols r c inner b
      → level_at rule n cols r c inner d ≡ sides rule n (n * cols) (corner n cols r c) (ltb 0 c) (ltb 0 r) inner b
  unfolding upright_at level_at sides
  luma-is b d s e f =
      let t : seated n (length d) cols r c ≡ true = rw e s in
      rw (t, f, s)

module _ (rule : Rule) (cols r c : ℕ) (inner : Bool) where
  pub chroma-is : (u v a b : List ℕ) → seated 8 (length u) cols r c ≡ true → seated 8 (length v) cols r c ≡ true
      → length a ≡ length u → length b ≡ length v → ◌≡◌ {A = List ℕ × List ℕ} (a, b) (upright_pair rule cols r c inner u v)
      → ◌≡◌ {A = List ℕ × List ℕ} (level_pair rule cols r c inner a b)
      (sides rule 8 (8 * cols) (corner 8 cols r c) (ltb 0 c) (ltb 0 r) inner u, sides rule 8 (8 * cols) (corner 8 cols r c) (ltb 0 c) (ltb 0 r) inner v)
  unfolding upright_pair level_pair sides
  chroma-is u v a b s t e f g =
      let i : seated 8 (length a) cols r c ≡ true = rw e s in
      let j : seated 8 (length b) cols r c ≡ true = rw f t in
      let p : ◌≡◌ {A = List ℕ × List ℕ} (a, b) (side rule 8 (corner 8 cols r c) 1 (8 * cols) (ltb 0 c) inner u, side rule 8 (corner 8 cols r c) 1 (8 * cols) (ltb 0 c) inner v) = g ∙ rw (s, t) in
      let x : a ≡ side rule 8 (corner 8 cols r c) 1 (8 * cols) (ltb 0 c) inner u = ap (λ (w : List ℕ × List ℕ). w.0) p in
      let y : b ≡ side rule 8 (corner 8 cols r c) 1 (8 * cols) (ltb 0 c) inner v = ap (λ (w : List ℕ × List ℕ). w.1) p in
      rw (i, j, x, y)

-- a macroblock whose level is not 0
pub mb-is : (simple : Bool) (level sharp : ℕ) (inner : Bool) (n cols r c : ℕ) (rule : Rule) (b d : List ℕ) → (level ≡ 0 → ⊥) → level ≤ 63 → sharp ≤ 7
    → rule ≡ rule_of simple (min level 63) (min sharp 7) → d ≡ sides rule n (n * cols) (corner n cols r c) (ltb 0 c) (ltb 0 r) inner b
    → d ≡ mb_of simple level sharp inner n cols r c b
unfolding mb_of
mb-is simple level sharp inner n cols r c rule b d h p q e f =
    let i : min level 63 ≡ level = omega arith in
    let j : min sharp 7 ≡ sharp = omega arith in
    let g : rule ≡ rule_of simple level sharp = e ∙ rw (i, j) in
    rw (ne_eqb level 0 h) (f ∙ ap (λ (t : Rule). sides t n (n * cols) (corner n cols r c) (ltb 0 c) (ltb 0 r) inner b) g)

-- one whose level is 0
pub mb-none : (simple : Bool) (level sharp : ℕ) (inner : Bool) (n cols r c : ℕ) (b : List ℕ) → level ≡ 0 → b ≡ mb_of simple level sharp inner n cols r c b
unfolding mb_of
mb-none simple level sharp inner n cols r c b e = rw (eq-eqb level 0 e)

pub pick_yes : (s : Bool) (x y : List ℕ) → s ≡ true → x ≡ pick s x y
pick_yes s x y e = rw e

pub pick_no : (s : Bool) (x y z : List ℕ) → s ≡ false → z ≡ y → z ≡ pick s x y
pick_no s x y z e f = rw e f

pub pick_same : (s : Bool) (x y : List ℕ) → x ≡ y → x ≡ pick s x y
pick_same true x y e = refl
pick_same false x y e = e
