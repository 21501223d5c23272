-- What the walkers make of a macroblock in one plane depends on the neighbours in that plane only.
--     drawn-by         one part of the answer, by that part of the planes of both walkers
--     drawn-pixels     the pixels in the plane p, by the edges in it
--     drawn-whole      the whole answer, by all edges
-- Assumes nothing.
use Prim.Native.Nat.{ℕ}
use mathlib.Core.Path.{◌≡◌, refl, ap}
use mathlib.Core.Bool.{Bool, true, false}
use mathlib.Core.List.{List, []}
use lib.Dec.{eqb}
use lib.IntN.{ℤ}
use lib.ListN.{length, drop}
use Rattle.lists.specs.Lists.{pick}
use Rattle.macroblock.specs.Reply.{wrong_length, b_pred, no_sub_modes, unknown_byte}
use Rattle.macroblock.specs.declared.modes.IntraYMode.{IntraYMode}
use Rattle.macroblock.specs.declared.modes.IntraUvMode.{IntraUvMode}
use Rattle.macroblock.specs.declared.modes.IntraBmode.{IntraBmode}
use Rattle.macroblock.specs.declared.modes.MbModes.{MbModes}
use Rattle.macroblock.specs.declared.neighbors.LumaEdges.{LumaEdges}
use Rattle.macroblock.specs.declared.neighbors.ChromaEdges.{ChromaEdges}
use Rattle.macroblock.specs.declared.neighbors.MbNeighbors.{MbNeighbors}
use Rattle.rfc6386.specs.Edges.{is_b}
use Rattle.rfc6386.specs.Picture.{row_above, left_of, luma_beside, chroma_beside, neighbors_of}
use Rattle.rfc6386.specs.Walk.{y_whole, uv_plane, y_parts}
use Rattle.reconstruct.specs.Answers.{MbAnswer, refusal, whole_of, parts_of, non_b, walk_b}
use Rattle.drawing.specs.Drawn.{modes_known, modes_of, sub_modes_of, subs_known, drawn_b, drawn_in, drawn}
use Rattle.still.specs.Picture.{Progress}
use Rattle.still_laws.specs.Words.{Plane, in_y, in_u, in_v, side, plane_of, pixels_of}

-- ---- f is the part, n and o are the neighbours
module _ {A : Type 0} (f : MbAnswer → A) (n o : MbNeighbors)
    (whole : (y : IntraYMode) (uv : IntraUvMode) (skip : Bool) (c : List ℤ) → f (whole_of y uv skip n c) ≡ f (whole_of y uv skip o c))
    (parts : (subs : List IntraBmode) (uv : IntraUvMode) (skip : Bool) (c : List ℤ) → f (parts_of subs uv skip n c) ≡ f (parts_of subs uv skip o c)) where
  chosen : (b : Bool) (x y z t : MbAnswer) → f x ≡ f y → f z ≡ f t → f (pick b x z) ≡ f (pick b y t)
  chosen true x y z t p q = p
  chosen false x y z t p q = q

  non_b-by : (m : MbModes) (c : List ℤ) → f (non_b m n c) ≡ f (non_b m o c)
  unfolding non_b
  non_b-by m c =
      chosen (is_b m.y) (refusal b_pred) (refusal b_pred) _ _ refl
      (chosen (eqb (length c) 400) (whole_of m.y m.uv m.skip n c) (whole_of m.y m.uv m.skip o c) (refusal wrong_length) (refusal wrong_length)
      (whole m.y m.uv m.skip c) refl)

  walk_b-by : (subs : List IntraBmode) (there : Bool) (m : MbModes) (c : List ℤ) → f (walk_b subs there m n c) ≡ f (walk_b subs there m o c)
  unfolding walk_b
  walk_b-by subs there m c =
      chosen there _ _ (refusal no_sub_modes) (refusal no_sub_modes)
      (chosen (eqb (length c) 384) (parts_of subs m.uv m.skip n c) (parts_of subs m.uv m.skip o c) (refusal wrong_length) (refusal wrong_length)
      (parts subs m.uv m.skip c) refl)
      refl

  in-by : (m : MbModes) (subs : List ℕ) (there : Bool) (c : List ℤ) → f (drawn_in m subs there n c) ≡ f (drawn_in m subs there o c)
  unfolding drawn_in drawn_b
  in-by m subs there c =
      chosen (is_b m.y) (drawn_b m subs there n c) (drawn_b m subs there o c) (non_b m n c) (non_b m o c)
      (chosen (subs_known subs there) (walk_b (sub_modes_of subs) there m n (drop 16 c)) (walk_b (sub_modes_of subs) there m o (drop 16 c))
      (refusal unknown_byte) (refusal unknown_byte) (walk_b-by (sub_modes_of subs) there m (drop 16 c)) refl)
      (non_b-by m c)

  pub drawn-by : (luma chroma skip : ℕ) (subs : List ℕ) (there : Bool) (c : List ℤ)
      → f (drawn luma chroma skip subs there n c) ≡ f (drawn luma chroma skip subs there o c)
  unfolding drawn
  drawn-by luma chroma skip subs there c =
      let m : MbModes = modes_of luma chroma skip in
      chosen (eqb (length c) 400) _ _ (refusal wrong_length) (refusal wrong_length)
      (chosen (modes_known luma chroma skip) (drawn_in m subs there n c) (drawn_in m subs there o c) (refusal unknown_byte) (refusal unknown_byte)
      (in-by m subs there c) refl)
      refl

-- ---- the edges of the macroblock in row r and column c, in the plane p of d and of e
abbrev pub row_in : Plane → Progress → ℕ → ℕ → ℕ → List ℕ → List ℕ
row_in in_y d w c r right = row_above 16 21 d.y w c r right
row_in in_u d w c r right = row_above 8 9 d.u w c r []
row_in in_v d w c r right = row_above 8 9 d.v w c r []

pub record SameEdges (p : Plane) (w r c : ℕ) (d : Progress) (right : List ℕ) (e : Progress) (other : List ℕ) : Type 0 where
  pub row : row_in p d w c r right ≡ row_in p e w c r other
  pub left : left_of (side p) (plane_of p d) w c r ≡ left_of (side p) (plane_of p e) w c r

abbrev pub around : ℕ → ℕ → ℕ → Progress → List ℕ → MbNeighbors
around w r c d right = neighbors_of d.y d.u d.v w c r right

module _ (w r c : ℕ) (d : Progress) (right : List ℕ) (e : Progress) (other : List ℕ) where
  abbrev n : MbNeighbors
  n = around w r c d right

  abbrev o : MbNeighbors
  o = around w r c e other

  y-edges : SameEdges in_y w r c d right e other → n.y ≡ o.y
  unfolding neighbors_of luma_beside
  y-edges s = rw (s.row, s.left)

  u-edges : SameEdges in_u w r c d right e other → n.u ≡ o.u
  unfolding neighbors_of chroma_beside
  u-edges s = rw (s.row, s.left)

  v-edges : SameEdges in_v w r c d right e other → n.v ≡ o.v
  unfolding neighbors_of chroma_beside
  v-edges s = rw (s.row, s.left)

  pub drawn-pixels : (p : Plane) → SameEdges p w r c d right e other → (luma chroma skip : ℕ) (subs : List ℕ) (there : Bool) (k : List ℤ)
      → pixels_of p (drawn luma chroma skip subs there n k) ≡ pixels_of p (drawn luma chroma skip subs there o k)
  unfolding whole_of parts_of
  drawn-pixels in_y s =
      drawn-by (pixels_of in_y) n o (λ y uv skip k. ap (λ (q : LumaEdges). y_whole y skip q k) (y-edges s))
      (λ subs uv skip k. ap (λ (q : LumaEdges). y_parts subs skip q k) (y-edges s))
  drawn-pixels in_u s =
      drawn-by (pixels_of in_u) n o (λ y uv skip k. ap (λ (q : ChromaEdges). uv_plane uv skip q k 272) (u-edges s))
      (λ subs uv skip k. ap (λ (q : ChromaEdges). uv_plane uv skip q k 256) (u-edges s))
  drawn-pixels in_v s =
      drawn-by (pixels_of in_v) n o (λ y uv skip k. ap (λ (q : ChromaEdges). uv_plane uv skip q k 336) (v-edges s))
      (λ subs uv skip k. ap (λ (q : ChromaEdges). uv_plane uv skip q k 320) (v-edges s))

  pub around-same : ((p : Plane) → SameEdges p w r c d right e other) → n ≡ o
  around-same s = λ i. record { y = y-edges (s in_y) i; u = u-edges (s in_u) i; v = v-edges (s in_v) i }
