-- Where a macroblock's edges lie. Assumes nothing.
--     seat            what a seated macroblock has: its square, and room beyond its own edges
--     left-fits ..    the windows of its edges
--     own-room ..     the same in either direction
--     one             one inner edge
--     outer-is ..     the kinds of a rule's edges
--     luma-left ..    what is answered of a macroblock that does not lie in its plane, and of one that does
use Prim.Native.Nat.{ℕ, ◌+◌, ◌-◌, ◌*◌, ◌<◌, ◌≤◌}
use native.Mathlib.Nat.{mul-le-mul_right}
use native.Mathlib.Omega.{arith}
use mathlib.Core.Path.{◌≡◌, refl}
use mathlib.Core.Bool.{Bool, true, false}
use mathlib.Core.List.{List}
use lib.Dec.{leb, ltb}
use lib.ListN.{length}
use borrow.Author.Tests.{ltb-true, leb-true}
use Rattle.lists.specs.Lists.{turns, pick, both}
use Rattle.lists.proofs.Tests.{left-holds, right-holds}
use Rattle.macroblock.specs.declared.filter.Limits.{Limits}
use Rattle.macroblock.specs.declared.filter.Kind.{Kind}
use Rattle.macroblock.specs.declared.filter.Kind.TheVariants.{Simple, Outer, Inner}
use Rattle.macroblock.specs.declared.filter.Rule.{Rule}
use Rattle.rfc6386.specs.LoopFilter.{corner, edge, inner_turn, outer_kind, inner_kind, side}
use Rattle.edge_lines.specs.Lines.{Fits}
use Rattle.edge_lines.specs.declared.direction.Direction.{Direction}
use Rattle.edge_lines.specs.declared.direction.Direction.TheVariants.{Upright, Level}
use Rattle.edge_lines.specs.Sides.{Square, Room, across, along, beyond, seated, upright_at, level_at, side_at, upright_pair, level_pair, side_pair}

pub square-same : {b d : List ℕ} {n at stride : ℕ} → length d ≡ length b → Square b n at stride → Square d n at stride
square-same e s = record { wide = s.wide; inside = λ k p. let h = s.inside k p in omega arith }

both-holds : (a b : Bool) → both a b ≡ true → (a ≡ true) × (b ≡ true)
both-holds a b e = (left-holds a b e, right-holds a b e)

in_rows : (Y X w H S : ℕ) → Y < H → X + w ≤ S → Y * S + X + w ≤ H * S
in_rows Y X w H S p q = let h : (Y + 1) * S ≤ H * S = mul-le-mul_right S (omega arith) in omega arith

-- what the code asks of macroblock c of row r
pub record Seat (n size cols r c : ℕ) : Type 0 where
  pub narrow : cols ≤ 1024
  pub short : r < 1024
  pub across : c < cols
  pub wide : n ≤ n * cols
  pub down : r * n * (n * cols) ≤ size
  pub place : corner n cols r c + n ≤ size
  pub inside : (k : ℕ) → k < n → corner n cols r c + k * (n * cols) + n ≤ size
  pub left : ltb 0 c ≡ true → n ≤ corner n cols r c
  pub room : ltb 0 c ≡ true → 2 * n ≤ n * cols
  pub top : ltb 0 r ≡ true → n * (n * cols) ≤ corner n cols r c

pub seat : (n size cols r c : ℕ) → 0 < n → seated n size cols r c ≡ true → Seat n size cols r c
unfolding seated
seat n size cols r c some e =
    let a = both-holds (leb cols 1024) _ e in
    let b = both-holds (ltb r 1024) _ a.1 in
    let d = both-holds (ltb c cols) _ b.1 in
    let p : c < cols = ltb-true c cols d.0 in
    let fit : (r + 1) * n * (n * cols) ≤ size = leb-true _ _ d.1 in
    let row : c * n + n ≤ n * cols = let h : (c + 1) * n ≤ cols * n = mul-le-mul_right n (omega arith) in omega arith in
    let ins : (k : ℕ) → k < n → corner n cols r c + k * (n * cols) + n ≤ size =
    λ k q. let h = in_rows (r * n + k) (c * n) n ((r + 1) * n) (n * cols) (omega arith) row in omega arith in
    let z = ins 0 some in
    record {
      narrow = leb-true cols 1024 a.0;
      short = ltb-true r 1024 b.0;
      across = p;
      wide = omega arith;
      down = omega arith;
      place = omega arith;
      inside = ins;
      left = λ t. let h : 1 * n ≤ c * n = mul-le-mul_right n (ltb-true 0 c t) in omega arith;
      room = λ t. let u = ltb-true 0 c t in let h : 2 * n ≤ cols * n = mul-le-mul_right n (omega arith) in omega arith;
      top = λ t. let h : 1 * n ≤ r * n = mul-le-mul_right n (ltb-true 0 r t) in let k : 1 * n * (n * cols) ≤ r * n * (n * cols) = mul-le-mul_right (n * cols) h in omega arith;
    }

pub seat-square : (n cols r c : ℕ) (b : List ℕ) → Seat n (length b) cols r c → Square b n (corner n cols r c) (n * cols)
seat-square n cols r c b s = record { wide = s.wide; inside = s.inside }

-- ---- the windows: eight columns about an upright edge, eight rows about a level one
module _ (b : List ℕ) (n at stride : ℕ) (s : Square b n at stride) where
  pub columns-fit : (q d : ℕ) → q ≡ at + d → d + 8 ≤ n → Fits 8 n q stride b
  columns-fit q d e h = record { inside = λ k p. let u = s.inside k p in omega arith }

  pub left-fits : 4 ≤ at → 4 ≤ n → Fits 8 n (at - 4) stride b
  left-fits h f = record { inside = λ k p. let u = s.inside k p in omega arith }

  pub rows_fit : (q d : ℕ) → q ≡ at + d * stride → d + 8 ≤ n → Fits n 8 q stride b
  rows_fit q d e h = record { inside = λ k p. let u = s.inside (d + k) (omega arith) in omega arith }

  pub top-fits : 4 * stride ≤ at → 4 ≤ n → Fits n 8 (at - 4 * stride) stride b
  top-fits h f =
      record {
        inside =
            λ k p.
            let u = s.inside 3 (omega arith) in
            let v : k * stride ≤ 7 * stride = mul-le-mul_right stride (omega arith) in
            omega arith;
      }

  -- ---- in either direction
  pub own-room : (d : Direction) → 4 * across d stride ≤ at → 4 ≤ n → Room d n at stride b
  own-room Upright h f = record { low = h; wide = s.wide; window = left-fits h f }
  own-room Level h f = record { low = h; wide = s.wide; window = top-fits h f }

  pub inner-room : (d : Direction) (j : ℕ) → 4 * (j + 1) + 4 ≤ n → Room d n (at + 4 * (j + 1) * across d stride) stride b
  inner-room Upright j h =
      record {
        low = omega arith;
        wide = s.wide;
        window = columns-fit (at + 4 * (j + 1) * 1 - 4 * 1) (4 * j) (omega arith) (omega arith);
      }
  inner-room Level j h =
      record {
        low = omega arith;
        wide = s.wide;
        window = rows_fit (at + 4 * (j + 1) * stride - 4 * stride) (4 * j) (omega arith) (omega arith);
      }

pub own-low : (d : Direction) (n size cols r c : ℕ) → 4 ≤ n → Seat n size cols r c → beyond d r c ≡ true
    → 4 * across d (n * cols) ≤ corner n cols r c
own-low Upright n size cols r c f s t = let h = s.left t in omega arith
own-low Level n size cols r c f s t =
    let h = s.top t in let k : 4 * (n * cols) ≤ n * (n * cols) = mul-le-mul_right (n * cols) f in omega arith

-- ---- the kinds of a rule's edges
pub outer-is : (t : Bool) → pick t Simple Outer ≡ outer_kind t
outer-is true = refl
outer-is false = refl

pub inner-is : (t : Bool) → pick t Simple Inner ≡ inner_kind t
inner-is true = refl
inner-is false = refl

-- ---- what is answered of a macroblock
module _ (rule : Rule) (cols r c : ℕ) (inner : Bool) where
  pub luma-left : (d : Direction) (b : List ℕ) → seated 16 (length b) cols r c ≡ false → b ≡ side_at d rule 16 cols r c inner b
  unfolding upright_at level_at
  luma-left Upright b e = rw e
  luma-left Level b e = rw e

  pub luma-filtered : (d : Direction) (b a : List ℕ) → seated 16 (length b) cols r c ≡ true
      → a ≡ side rule 16 (corner 16 cols r c) (across d (16 * cols)) (along d (16 * cols)) (beyond d r c) inner b
      → a ≡ side_at d rule 16 cols r c inner b
  unfolding upright_at level_at
  luma-filtered Upright b a e h = rw e h
  luma-filtered Level b a e h = rw e h

  module _ (u v : List ℕ) where
    pub u-left : (d : Direction) → seated 8 (length u) cols r c ≡ false → ◌≡◌ {A = List ℕ × List ℕ} (u, v) (side_pair d rule cols r c inner u v)
    unfolding upright_pair level_pair
    u-left Upright e = rw e
    u-left Level e = rw e

    pub v-left : (d : Direction) → seated 8 (length u) cols r c ≡ true → seated 8 (length v) cols r c ≡ false
        → ◌≡◌ {A = List ℕ × List ℕ} (u, v) (side_pair d rule cols r c inner u v)
    unfolding upright_pair level_pair
    v-left Upright e f = rw (e, f)
    v-left Level e f = rw (e, f)

    pub chroma-filtered : (d : Direction) (x y : List ℕ) → seated 8 (length u) cols r c ≡ true → seated 8 (length v) cols r c ≡ true
        → x ≡ side rule 8 (corner 8 cols r c) (across d (8 * cols)) (along d (8 * cols)) (beyond d r c) inner u
        → y ≡ side rule 8 (corner 8 cols r c) (across d (8 * cols)) (along d (8 * cols)) (beyond d r c) inner v
        → ◌≡◌ {A = List ℕ × List ℕ} (x, y) (side_pair d rule cols r c inner u v)
    unfolding upright_pair level_pair
    chroma-filtered Upright x y e f g h = rw (e, f, g, h)
    chroma-filtered Level x y e f g h = rw (e, f, g, h)

-- ---- one inner edge
module _ (kind : Kind) (l : Limits) (n at step next : ℕ) (b : List ℕ) where
  pub one : (p : ℕ) → p ≡ at + 4 * (0 + 1) * step → edge kind l n p step next b ≡ turns 1 (inner_turn kind l n at step next) b
  unfolding turns
  one p x = rw x
