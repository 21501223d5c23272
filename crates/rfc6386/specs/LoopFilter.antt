-- RFC 6386, section 15: the loop filter of a key frame. A filter is a function of the eight pixels across one edge,
--
--        P3 P2 P1 P0 | Q0 Q1 Q2 Q3
--
-- and an edge is filtered place by place, in a plane, in either direction; a macroblock edge by edge; a plane macroblock by macroblock.
-- u2s takes a pixel to -128..127, s2u takes a number back to a pixel, held within 0 and 255, and c holds a number within -128..127; `>>` is `shr_z`,
-- division rounded down.
use Rattle.std.specs.Prelude.{ℕ, ◌+◌, ◌-◌, ◌*◌, ◌/◌, min, max, Bool, true, false, List, leb, ltb, eqb, ℤ, pos, ◌+ℤ◌, ◌-ℤ◌, ◌*ℤ◌, get_or, set}
use Rattle.std.specs.Int.Signed.{shr_z}
use Rattle.lists.specs.Lists.{turns, pick, both}
use Rattle.whole.specs.Whole.{clamp}
use Rattle.macroblock.specs.declared.filter.Across.{Across}
use Rattle.macroblock.specs.declared.filter.Limits.{Limits}
use Rattle.macroblock.specs.declared.filter.Kind.{Kind}
use Rattle.macroblock.specs.declared.filter.Kind.TheVariants.{Simple, Outer, Inner}
use Rattle.macroblock.specs.declared.filter.Rule.{Rule}

unfoldable pub u2s : ℕ → ℤ
u2s x = pos x -ℤ pos 128

unfoldable pub s2u : ℤ → ℕ
s2u z = clamp (z +ℤ pos 128)

abbrev pub c : ℤ → ℤ
c z = u2s (s2u z)

-- |x - y|
abbrev pub apart : ℕ → ℕ → ℕ
apart x y = (x - y) + (y - x)

-- ---- which pixels are filtered (15.2, 15.3)
-- the step across the edge is within the edge limit
unfoldable pub near : Limits → Across → Bool
near l x = leb (apart x.p0 x.q0 * 2 + apart x.p1 x.q1 / 2) l.edge

-- no two neighbours on one side differ by more than the interior limit
unfoldable pub smooth : Limits → Across → Bool
smooth l x =
    leb
    (max
    (max (apart x.p3 x.p2) (max (apart x.p2 x.p1) (apart x.p1 x.p0)))
    (max (apart x.q1 x.q0) (max (apart x.q2 x.q1) (apart x.q3 x.q2))))
    l.interior

-- high edge variance
unfoldable pub steep : Limits → Across → Bool
steep l x = ltb l.hev (max (apart x.p1 x.p0) (apart x.q1 x.q0))

-- ---- what they become
-- the common adjustment's a, with or without the outer taps P1 and Q1, before it is divided
unfoldable pub adjust : Bool → Across → ℤ
adjust outer x = c (pick outer (c (u2s x.p1 -ℤ u2s x.q1)) (pos 0) +ℤ pos 3 *ℤ (u2s x.q0 -ℤ u2s x.p0))

-- the common adjustment: the simple filter, and the normal one where the variance is high
unfoldable pub common : Bool → Across → Across
common outer x =
    record {
      p3 = x.p3;
      p2 = x.p2;
      p1 = x.p1;
      p0 = s2u (u2s x.p0 +ℤ shr_z (c (adjust outer x +ℤ pos 3)) 8);
      q0 = s2u (u2s x.q0 -ℤ shr_z (c (adjust outer x +ℤ pos 4)) 8);
      q1 = x.q1;
      q2 = x.q2;
      q3 = x.q3;
    }

-- at an inner edge without high variance
unfoldable pub subblock : Across → Across
subblock x =
    let a = shr_z (shr_z (c (adjust false x +ℤ pos 4)) 8 +ℤ pos 1) 2 in
    record {
      p3 = x.p3;
      p2 = x.p2;
      p1 = s2u (u2s x.p1 +ℤ a);
      p0 = s2u (u2s x.p0 +ℤ shr_z (c (adjust false x +ℤ pos 3)) 8);
      q0 = s2u (u2s x.q0 -ℤ shr_z (c (adjust false x +ℤ pos 4)) 8);
      q1 = s2u (u2s x.q1 -ℤ a);
      q2 = x.q2;
      q3 = x.q3;
    }

-- at a macroblock's own edge without high variance: 27, 18 and 9 parts of 128
abbrev pub tap : ℕ → Across → ℤ
tap k x = c (shr_z (pos k *ℤ adjust true x +ℤ pos 63) 128)

unfoldable pub macroblock : Across → Across
macroblock x =
    record {
      p3 = x.p3;
      p2 = s2u (u2s x.p2 +ℤ tap 9 x);
      p1 = s2u (u2s x.p1 +ℤ tap 18 x);
      p0 = s2u (u2s x.p0 +ℤ tap 27 x);
      q0 = s2u (u2s x.q0 -ℤ tap 27 x);
      q1 = s2u (u2s x.q1 -ℤ tap 18 x);
      q2 = s2u (u2s x.q2 -ℤ tap 9 x);
      q3 = x.q3;
    }

-- ---- the three filters
unfoldable pub filtered : Kind → Limits → Across → Across
filtered Simple l x = pick (near l x) (common true x) x
filtered Outer l x = pick (both (near l x) (smooth l x)) (pick (steep l x) (common true x) (macroblock x)) x
filtered Inner l x = pick (both (near l x) (smooth l x)) (pick (steep l x) (common true x) (subblock x)) x

-- how many pixels on each side they may change
abbrev pub reach : Kind → ℕ
reach Simple = 1
reach Outer = 3
reach Inner = 2

-- ---- the limits, from a level of 0 to 63 and a sharpness of 0 to 7
unfoldable pub interior_of : ℕ → ℕ → ℕ
interior_of level sharp = max 1 (pick (eqb sharp 0) level (min (9 - sharp) (level / pick (ltb 4 sharp) 4 2)))

-- high edge variance in a key frame
unfoldable pub hev_of : ℕ → ℕ
hev_of level = pick (ltb level 15) 0 (pick (ltb level 40) 1 2)

-- at a macroblock's own edges `base` is the level and 2, at its inner ones the level
unfoldable pub limits_of : ℕ → ℕ → ℕ → Limits
limits_of base level sharp = record { edge = base * 2 + interior_of level sharp; interior = interior_of level sharp; hev = hev_of level }

unfoldable pub rule_of : Bool → ℕ → ℕ → Rule
rule_of simple level sharp = record { outer = limits_of (level + 2) level sharp; inner = limits_of level level sharp; simple = simple }

abbrev pub outer_kind : Bool → Kind
outer_kind true = Simple
outer_kind false = Outer

abbrev pub inner_kind : Bool → Kind
inner_kind true = Simple
inner_kind false = Inner

-- ---- an edge in a plane. `i` is the place of Q0; `step` is the distance from a pixel to the next across the edge, `next` along it: 1 and the stride
-- at an upright edge, the stride and 1 at a level one.
unfoldable pub taken : ℕ → ℕ → List ℕ → Across
taken step i b =
    record {
      p3 = get_or b (i - 4 * step) 0;
      p2 = get_or b (i - 3 * step) 0;
      p1 = get_or b (i - 2 * step) 0;
      p0 = get_or b (i - step) 0;
      q0 = get_or b i 0;
      q1 = get_or b (i + step) 0;
      q2 = get_or b (i + 2 * step) 0;
      q3 = get_or b (i + 3 * step) 0;
    }

-- P2 to Q2 put back, the outermost first
unfoldable pub laid : ℕ → ℕ → Across → List ℕ → List ℕ
laid step i x b =
    set
    (set
    (set
    (set (set (set b (i - 3 * step) x.p2) (i + 2 * step) x.q2) (i - 2 * step) x.p1)
    (i + step)
    x.q1)
    (i - step)
    x.p0)
    i
    x.q0

-- one place of an edge filtered
unfoldable pub crossed : Kind → Limits → ℕ → ℕ → List ℕ → List ℕ
crossed kind l step i b = laid step i (filtered kind l (taken step i b)) b

-- a turn of an edge: its k-th place
abbrev pub edge_turn : Kind → Limits → ℕ → ℕ → ℕ → ℕ → List ℕ → List ℕ
edge_turn kind l at step next k b = crossed kind l step (at + k * next) b

-- an edge of n places from `at` on
unfoldable pub edge : Kind → Limits → ℕ → ℕ → ℕ → ℕ → List ℕ → List ℕ
edge kind l n at step next b = turns n (edge_turn kind l at step next) b

-- ---- a macroblock of n by n pixels, n being 16 in Y and 8 in U and V. Each plane is filtered by itself: no filter reads another.
-- its own edge in one direction, if the picture goes on beyond it
unfoldable pub own_edge : Rule → ℕ → ℕ → ℕ → ℕ → Bool → List ℕ → List ℕ
own_edge rule n at step next there b = pick there (edge (outer_kind rule.simple) rule.outer n at step next b) b

-- its inner edges in one direction, one every four pixels
abbrev pub inner_turn : Kind → Limits → ℕ → ℕ → ℕ → ℕ → ℕ → List ℕ → List ℕ
inner_turn kind l n at step next j b = edge kind l n (at + 4 * (j + 1) * step) step next b

unfoldable pub inner_edges : Rule → ℕ → ℕ → ℕ → ℕ → Bool → List ℕ → List ℕ
inner_edges rule n at step next inner b = pick inner (turns (n / 4 - 1) (inner_turn (inner_kind rule.simple) rule.inner n at step next) b) b

-- one direction: its own edge, then the inner ones
unfoldable pub side : Rule → ℕ → ℕ → ℕ → ℕ → Bool → Bool → List ℕ → List ℕ
side rule n at step next there inner b = inner_edges rule n at step next inner (own_edge rule n at step next there b)

-- its upright edges from left to right, then its level ones from top to bottom
unfoldable pub sides : Rule → ℕ → ℕ → ℕ → Bool → Bool → Bool → List ℕ → List ℕ
sides rule n stride at left top inner b = side rule n at stride 1 top inner (side rule n at 1 stride left inner b)

-- where macroblock c of row r begins, in a plane with `cols` macroblocks a row
abbrev pub corner : ℕ → ℕ → ℕ → ℕ → ℕ
corner n cols r c = r * n * (n * cols) + c * n

-- macroblock c of row r; level 0 filters nothing
unfoldable pub mb_of : Bool → ℕ → ℕ → Bool → ℕ → ℕ → ℕ → ℕ → List ℕ → List ℕ
mb_of simple level sharp inner n cols r c b =
    pick (eqb level 0) b (sides (rule_of simple level sharp) n (n * cols) (corner n cols r c) (ltb 0 c) (ltb 0 r) inner b)

-- ---- a plane: its macroblocks in raster order. `level k` is the level of macroblock k, and its inner edges are filtered where byte k of `inner` is not 0.
module _ (simple : Bool) (sharp : ℕ) (level : ℕ → ℕ) (inner : List ℕ) (cols : ℕ) where
  abbrev pub mb_at : ℕ → ℕ → ℕ → List ℕ → List ℕ
  mb_at n r c b = mb_of simple (level (r * cols + c)) sharp (ltb 0 (get_or inner (r * cols + c) 0)) n cols r c b

  -- in Y, and in U and V, which the simple filter leaves alone
  abbrev pub luma_at : ℕ → ℕ → List ℕ → List ℕ
  luma_at r c b = mb_at 16 r c b

  abbrev pub chroma_at : ℕ → ℕ → List ℕ → List ℕ
  chroma_at r c b = pick simple b (mb_at 8 r c b)

  unfoldable pub luma_row : ℕ → List ℕ → List ℕ
  luma_row r b = turns cols (luma_at r) b

  unfoldable pub chroma_row : ℕ → List ℕ → List ℕ
  chroma_row r b = turns cols (chroma_at r) b

  unfoldable pub luma_of : ℕ → List ℕ → List ℕ
  luma_of rows b = turns rows luma_row b

  unfoldable pub chroma_of : ℕ → List ℕ → List ℕ
  chroma_of rows b = turns rows chroma_row b
