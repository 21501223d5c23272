-- The bytes of an absent part of a row or of an absent column are read nowhere: two neighbour records with the same marks, and the same
-- pixels in the parts that are there, give the same planes. Assumes nothing.
use Prim.Native.Nat.{ℕ, zero, suc, ◌+◌, ◌-◌, ◌<◌, ◌≤◌}
use mathlib.Core.Path.{◌≡◌, refl, sym, ap, ◌∙◌}
use mathlib.Core.Bool.{Bool, true, false}
use mathlib.Core.List.{List}
use native.Mathlib.Omega.{arith}
use borrow.Author.Tests.{le-ltb}
use lib.Dec.{ltb, ltb→lt, nltb→le}
use lib.IntN.{ℤ}
use lib.ListN.{get_or}
use Rattle.lists.specs.Lists.{part}
use Rattle.lists.proofs.Table.{table-agree, table-ext}
use Rattle.lists.proofs.Tests.{true-T}
use Rattle.macroblock.specs.declared.modes.IntraYMode.{IntraYMode}
use Rattle.macroblock.specs.declared.modes.IntraUvMode.{IntraUvMode}
use Rattle.macroblock.specs.declared.modes.IntraBmode.{IntraBmode}
use Rattle.macroblock.specs.declared.neighbors.LumaEdges.{LumaEdges}
use Rattle.macroblock.specs.declared.neighbors.ChromaEdges.{ChromaEdges}
use Rattle.macroblock.specs.declared.neighbors.MbNeighbors.{MbNeighbors}
use Rattle.rfc6386.specs.Edges.{edge_or, pixel_or, above_or, left_or, predict_uv, predict_y}
use Rattle.rfc6386.specs.Walk.{seeded, block_at, plane, y_prediction, uv_prediction, y_whole, uv_plane, there_at, row_or, start_of, walked, luma_of, y_parts}
use Rattle.rfc6386.proofs.Edges.{y-above-unread, y-left-unread, uv-above-unread, uv-left-unread}

-- an edge, or a pixel, and its mark: the same mark, and the same pixels where it is there
pub record Same {A : Type 0} (x : A) (there : Bool) (y : A) (too : Bool) : Type 0 where
  pub mark : there ≡ too
  pub pixels : there ≡ true → x ≡ y

-- what does not read an absent edge
module _ {A B : Type 0} (f : A → Bool → B) (unread : (x y : A) → f x false ≡ f y false) where
  by-mark : (t : Bool) (x y : A) → (t ≡ true → x ≡ y) → f x t ≡ f y t
  by-mark true x y h = ap (λ (z : A). f z true) (h refl)
  by-mark false x y h = unread x y

  pub same : {x y : A} {t s : Bool} → Same x t y s → f x t ≡ f y s
  same {x} {y} {t} {s} e = by-mark t x y e.pixels ∙ ap (λ (b : Bool). f y b) e.mark

pub pixel-same : (v : ℕ) {p q : ℕ} {t s : Bool} → Same p t q s → pixel_or v p t ≡ pixel_or v q s
unfolding pixel_or
pixel-same v = same (pixel_or v) (λ x y. refl)

module _ (n : ℕ) {a b : List ℕ} {t s : Bool} (e : Same a t b s) where
  pub above_same : above_or n a t ≡ above_or n b s
  unfolding above_or edge_or
  above_same = same (above_or n) (λ x y. refl) e

  pub left-same : left_or n a t ≡ left_or n b s
  unfolding left_or edge_or
  left-same = same (left_or n) (λ x y. refl) e

module _ {a b l m : List ℕ} {t s u w : Bool} {p q : ℕ} (e : Same a t b s) (f : Same l u m w) (g : p ≡ q) where
  pub uv-same : (mode : IntraUvMode) → predict_uv mode a t l u p ≡ predict_uv mode b s m w q
  uv-same mode =
      same (λ x z. predict_uv mode x z l u p) (λ x y. uv-above-unread mode x y l u p) e
      ∙ same (λ x z. predict_uv mode b s x z p) (λ x y. uv-left-unread mode b s x y p) f
      ∙ ap (λ (x : ℕ). predict_uv mode b s m w x) g

  pub y-same : (mode : IntraYMode) → predict_y mode a t l u p ≡ predict_y mode b s m w q
  y-same mode =
      same (λ x z. predict_y mode x z l u p) (λ x y. y-above-unread mode x y l u p) e
      ∙ same (λ x z. predict_y mode b s x z p) (λ x y. y-left-unread mode b s x y p) f
      ∙ ap (λ (x : ℕ). predict_y mode b s m w x) g

-- ---- the edges of a plane: each part of the row, and the left column
pub record SameLuma (d e : LumaEdges) : Type 0 where
  pub topleft : Same (get_or d.row 0 0) d.topleft_there (get_or e.row 0 0) e.topleft_there
  pub above : Same (part 16 d.row 1) d.above_there (part 16 e.row 1) e.above_there
  pub above-right : Same (part 4 d.row 17) d.above_right_there (part 4 e.row 17) e.above_right_there
  pub left : Same d.left d.left_there e.left e.left_there

pub record SameChroma (d e : ChromaEdges) : Type 0 where
  pub topleft : Same (get_or d.row 0 0) d.topleft_there (get_or e.row 0 0) e.topleft_there
  pub above : Same (part 8 d.row 1) d.above_there (part 8 e.row 1) e.above_there
  pub left : Same d.left d.left_there e.left e.left_there

-- two records
pub record SameEdges (m n : MbNeighbors) : Type 0 where
  pub y : SameLuma m.y n.y
  pub u : SameChroma m.u n.u
  pub v : SameChroma m.v n.v

-- ---- luma
-- pixel i of the row, in the part of n from `at` on
part-pixel : (n at : ℕ) (s t : List ℕ) {p q : Bool} → Same (part n s at) p (part n t at) q → (i : ℕ) → at ≤ i → i < at + n
    → Same (get_or s i 0) p (get_or t i 0) q
unfolding part
part-pixel n at s t e i a l =
    let q : at + (i - at) ≡ i = omega arith in
    record { mark = e.mark; pixels = λ h. rw q at (table-agree n (λ k. get_or s (at + k) 0) (λ k. get_or t (at + k) 0) (e.pixels h) (i - at) (omega arith)) }

module _ {d e : LumaEdges} (same : SameLuma d e) where
  pub y_prediction-same : (mode : IntraYMode) → y_prediction mode d ≡ y_prediction mode e
  unfolding y_prediction
  y_prediction-same mode = y-same same.above same.left (pixel-same 127 same.topleft) mode

  -- a pixel after the first: of the sixteen, or of the last four
  by_part : (j : ℕ) → suc j < 21 → (b : Bool) → ltb (suc j) 17 ≡ b
      → pixel_or 127 (get_or d.row (suc j) 0) (there_at d (suc j)) ≡ pixel_or 127 (get_or e.row (suc j) 0) (there_at e (suc j))
  by_part j l true t =
      let h : suc j < 17 = ltb→lt (suc j) 17 (true-T (sym t)) in
      rw (le-ltb (suc j) 1 (omega arith), t) (pixel-same 127 (part-pixel 16 1 d.row e.row same.above (suc j) (omega arith) (omega arith)))
  by_part j l false t =
      let h : 17 ≤ suc j = nltb→le (suc j) 17 (rw t tt) in
      rw (le-ltb (suc j) 1 (omega arith), t) (pixel-same 127 (part-pixel 4 17 d.row e.row same.above-right (suc j) h (omega arith)))

  row-pixel : (i : ℕ) → i < 21 → pixel_or 127 (get_or d.row i 0) (there_at d i) ≡ pixel_or 127 (get_or e.row i 0) (there_at e i)
  row-pixel zero l = pixel-same 127 same.topleft
  row-pixel (suc j) l = by_part j l (ltb (suc j) 17) refl

  pub row_same : row_or d ≡ row_or e
  unfolding row_or
  row_same = table-ext 21 _ _ row-pixel

  pub start-same : start_of d ≡ start_of e
  unfolding start_of
  start-same = rw (row_same, left-same 16 same.left)

  pub y_whole-same : (mode : IntraYMode) (skip : Bool) (coeffs : List ℤ) → y_whole mode skip d coeffs ≡ y_whole mode skip e coeffs
  unfolding y_whole
  y_whole-same mode skip coeffs = ap (λ (p : List ℕ). plane 16 skip p (seeded coeffs)) (y_prediction-same mode)

  pub y_parts-same : (modes : List IntraBmode) (skip : Bool) (coeffs : List ℤ) → y_parts modes skip d coeffs ≡ y_parts modes skip e coeffs
  unfolding y_parts
  y_parts-same modes skip coeffs = ap (λ (b : List ℕ). luma_of (walked 16 modes skip coeffs b)) start-same

-- ---- chroma
module _ {d e : ChromaEdges} (same : SameChroma d e) where
  pub uv_prediction-same : (mode : IntraUvMode) → uv_prediction mode d ≡ uv_prediction mode e
  unfolding uv_prediction
  uv_prediction-same mode = uv-same same.above same.left (pixel-same 127 same.topleft) mode

  pub uv_plane-same : (mode : IntraUvMode) (skip : Bool) (coeffs : List ℤ) (base : ℕ) → uv_plane mode skip d coeffs base ≡ uv_plane mode skip e coeffs base
  unfolding uv_plane
  uv_plane-same mode skip coeffs base = ap (λ (p : List ℕ). plane 8 skip p (block_at coeffs base)) (uv_prediction-same mode)
