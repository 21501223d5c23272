-- 16x16 and 8x8 prediction, over the edge's length n.
--     v-absent, h-absent        a block drawn from an absent edge is flat
--     dc-flat                   so is DC's
--     tm-planes                 TM is a rule of the H block's pixel and the V block's
--     .. -unread                the bytes of an absent edge change nothing
--     y-p-unread, uv-p-unread   P changes nothing outside TM
--     .. -length                how many pixels there are
-- Assumes nothing.
use mathlib.Core.Path.{◌≡◌, refl, sym, ◌∙◌}
use mathlib.Core.Bool.{Bool, true, false}
use mathlib.Core.List.{List}
use Prim.Native.Nat.{ℕ, ◌*◌}
use lib.ListN.{length, get_or, replicate, get_or-replicate}
use Rattle.lists.specs.Lists.{table}
use Rattle.lists.proofs.Rows.{rows-flat, rows_same, rows_at, rows-length}
use Rattle.macroblock.specs.declared.modes.IntraYMode.{IntraYMode}
use Rattle.macroblock.specs.declared.modes.IntraYMode.TheVariants as y
use Rattle.macroblock.specs.declared.modes.IntraUvMode.{IntraUvMode}
use Rattle.macroblock.specs.declared.modes.IntraUvMode.TheVariants as uv
use Rattle.rfc6386.specs.Edges.{edge_or, above_or, left_or, v_pixel, h_pixel, tm, tm_pixel, dc_pixel, dc_block, v_block, h_block, tm_block, predict_uv, predict_y}

-- ---- blocks
pub v-absent : (n : ℕ) (above : List ℕ) → v_block n above false ≡ table (n * n) (λ k. 127)
unfolding v_block above_or edge_or
v-absent n above = rows-flat n n (v_pixel (replicate n 127)) (λ k. 127) (λ r c l k. get_or-replicate n c 127 0 k)

pub h-absent : (n : ℕ) (left : List ℕ) → h_block n left false ≡ table (n * n) (λ k. 129)
unfolding h_block left_or edge_or
h-absent n left = rows-flat n n (h_pixel (replicate n 129)) (λ k. 129) (λ r c l k. get_or-replicate n r 129 0 l)

pub dc-flat : (n : ℕ) (above : List ℕ) (at : Bool) (left : List ℕ) (lt : Bool)
    → dc_block n above at left lt ≡ table (n * n) (λ k. dc_pixel n above at left lt)
unfolding dc_block
dc-flat n above at left lt = rows_same (dc_pixel n above at left lt) n n

pub tm-planes : (n : ℕ) (above : List ℕ) (at : Bool) (left : List ℕ) (lt : Bool) (p : ℕ)
    → tm_block n above at left lt p ≡ table (n * n) (λ k. tm (get_or (h_block n left lt) k 0) (get_or (v_block n above at) k 0) p)
unfolding tm_block h_block v_block
tm-planes n above at left lt p =
    rows-flat n n _ _ (λ r c l k. rw (rows_at n n (h_pixel (left_or n left lt)) r c 0 l k, rows_at n n (v_pixel (above_or n above at)) r c 0 l k))

-- ---- the bytes of an absent edge change nothing
pub v-unread : (n : ℕ) (a b : List ℕ) → v_block n a false ≡ v_block n b false
v-unread n a b = v-absent n a ∙ sym (v-absent n b)

pub h-unread : (n : ℕ) (a b : List ℕ) → h_block n a false ≡ h_block n b false
h-unread n a b = h-absent n a ∙ sym (h-absent n b)

pub tm-above-unread : (n : ℕ) (a b left : List ℕ) (lt : Bool) (p : ℕ) → tm_block n a false left lt p ≡ tm_block n b false left lt p
unfolding tm_block above_or edge_or
tm-above-unread n a b left lt p = refl

pub tm-left-unread : (n : ℕ) (above : List ℕ) (at : Bool) (a b : List ℕ) (p : ℕ) → tm_block n above at a false p ≡ tm_block n above at b false p
unfolding tm_block left_or edge_or
tm-left-unread n above at a b p = refl

pub dc-above-unread : (n : ℕ) (a b left : List ℕ) (lt : Bool) → dc_block n a false left lt ≡ dc_block n b false left lt
unfolding dc_block dc_pixel
dc-above-unread n a b left true = refl
dc-above-unread n a b left false = refl

pub dc-left-unread : (n : ℕ) (above : List ℕ) (at : Bool) (a b : List ℕ) → dc_block n above at a false ≡ dc_block n above at b false
unfolding dc_block dc_pixel
dc-left-unread n above true a b = refl
dc-left-unread n above false a b = refl

pub y-above-unread : (mode : IntraYMode) (a b left : List ℕ) (lt : Bool) (p : ℕ) → predict_y mode a false left lt p ≡ predict_y mode b false left lt p
unfolding predict_y
y-above-unread y.Dc a b left lt p = dc-above-unread 16 a b left lt
y-above-unread y.«V» a b left lt p = v-unread 16 a b
y-above-unread y.H a b left lt p = refl
y-above-unread y.Tm a b left lt p = tm-above-unread 16 a b left lt p
y-above-unread y.B a b left lt p = refl

pub y-left-unread : (mode : IntraYMode) (above : List ℕ) (at : Bool) (a b : List ℕ) (p : ℕ) → predict_y mode above at a false p ≡ predict_y mode above at b false p
unfolding predict_y
y-left-unread y.Dc above at a b p = dc-left-unread 16 above at a b
y-left-unread y.«V» above at a b p = refl
y-left-unread y.H above at a b p = h-unread 16 a b
y-left-unread y.Tm above at a b p = tm-left-unread 16 above at a b p
y-left-unread y.B above at a b p = refl

pub uv-above-unread : (mode : IntraUvMode) (a b left : List ℕ) (lt : Bool) (p : ℕ) → predict_uv mode a false left lt p ≡ predict_uv mode b false left lt p
unfolding predict_uv
uv-above-unread uv.Dc a b left lt p = dc-above-unread 8 a b left lt
uv-above-unread uv.«V» a b left lt p = v-unread 8 a b
uv-above-unread uv.H a b left lt p = refl
uv-above-unread uv.Tm a b left lt p = tm-above-unread 8 a b left lt p

pub uv-left-unread : (mode : IntraUvMode) (above : List ℕ) (at : Bool) (a b : List ℕ) (p : ℕ) → predict_uv mode above at a false p ≡ predict_uv mode above at b false p
unfolding predict_uv
uv-left-unread uv.Dc above at a b p = dc-left-unread 8 above at a b
uv-left-unread uv.«V» above at a b p = refl
uv-left-unread uv.H above at a b p = h-unread 8 a b
uv-left-unread uv.Tm above at a b p = tm-left-unread 8 above at a b p

-- ---- P is read in TM only
pub y-p-unread : (mode : IntraYMode) → (mode ≡ y.Tm → ⊥) → (above : List ℕ) (at : Bool) (left : List ℕ) (lt : Bool) (p q : ℕ)
    → predict_y mode above at left lt p ≡ predict_y mode above at left lt q
unfolding predict_y
y-p-unread y.Dc h above at left lt p q = refl
y-p-unread y.«V» h above at left lt p q = refl
y-p-unread y.H h above at left lt p q = refl
y-p-unread y.Tm h above at left lt p q = absurd (h refl)
y-p-unread y.B h above at left lt p q = refl

pub uv-p-unread : (mode : IntraUvMode) → (mode ≡ uv.Tm → ⊥) → (above : List ℕ) (at : Bool) (left : List ℕ) (lt : Bool) (p q : ℕ)
    → predict_uv mode above at left lt p ≡ predict_uv mode above at left lt q
unfolding predict_uv
uv-p-unread uv.Dc h above at left lt p q = refl
uv-p-unread uv.«V» h above at left lt p q = refl
uv-p-unread uv.H h above at left lt p q = refl
uv-p-unread uv.Tm h above at left lt p q = absurd (h refl)

-- ---- how many pixels
pub v-length : (n : ℕ) (above : List ℕ) (at : Bool) → length (v_block n above at) ≡ n * n
unfolding v_block
v-length n above at = rows-length n n (v_pixel (above_or n above at))

pub h-length : (n : ℕ) (left : List ℕ) (lt : Bool) → length (h_block n left lt) ≡ n * n
unfolding h_block
h-length n left lt = rows-length n n (h_pixel (left_or n left lt))

module _ (above : List ℕ) (at : Bool) (left : List ℕ) (lt : Bool) where
  pub dc-length : (n : ℕ) → length (dc_block n above at left lt) ≡ n * n
  unfolding dc_block
  dc-length n = rows-length n n (λ r c. dc_pixel n above at left lt)

  pub tm-length : (n p : ℕ) → length (tm_block n above at left lt p) ≡ n * n
  unfolding tm_block
  tm-length n p = rows-length n n (tm_pixel (above_or n above at) (left_or n left lt) p)

  pub y-length : (mode : IntraYMode) (p : ℕ) → length (predict_y mode above at left lt p) ≡ 256
  unfolding predict_y
  y-length y.Dc p = dc-length 16
  y-length y.«V» p = v-length 16 above at
  y-length y.H p = h-length 16 left lt
  y-length y.Tm p = tm-length 16 p
  y-length y.B p = refl

  pub uv-length : (mode : IntraUvMode) (p : ℕ) → length (predict_uv mode above at left lt p) ≡ 64
  unfolding predict_uv
  uv-length uv.Dc p = dc-length 8
  uv-length uv.«V» p = v-length 8 above at
  uv-length uv.H p = h-length 8 left lt
  uv-length uv.Tm p = tm-length 8 p
